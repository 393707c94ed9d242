use Rattle.std.proofs.Common.{◌≡◌, ◌++◌, drop}
use Rattle.serde_json.specs.View.{items_view}
use Rattle.auth_request.specs.ClaimsParameter.{item_texts}
use Rattle.auth_request.proofs.claims_parameter.push_items.Given as goal

abbrev pub invariant-loop-item : goal.invariant-loop-item
invariant-loop-item l = l.texts ++ item_texts (items_view (drop l.item-index l.items.items)) ≡ l.fn.texts ++ item_texts (items_view l.items.items)
