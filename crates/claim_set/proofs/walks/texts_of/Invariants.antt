use Rattle.std.proofs.Common.{◌≡◌, drop, ◌++◌, option_map}
use Rattle.serde_json.specs.View.{items_view}
use Rattle.claim_set.specs.Kinds.{item_texts}
use Rattle.claim_set.proofs.walks.texts_of.Given as goal

abbrev pub invariant-loop-item : goal.invariant-loop-item
invariant-loop-item l = option_map (λ rest. l.texts ++ rest) (item_texts (items_view (drop l.item-index l.item-items))) ≡ item_texts (items_view l.items.items)
