use Rattle.std.proofs.Common.{◌≡◌, ◌++◌, drop, option_map}
use Rattle.toml.specs.View.{items_view}
use Rattle.configuration_rows.specs.Values.{items_texts}
use Rattle.end_request.proofs.returning.texts_in.Given as goal

-- the texts so far, and those to come
abbrev pub invariant-loop-item : goal.invariant-loop-item
invariant-loop-item l = option_map (λ rest. l.texts.items ++ rest) (items_texts (items_view (drop l.item-index l.items))) ≡ items_texts (items_view l.items)
