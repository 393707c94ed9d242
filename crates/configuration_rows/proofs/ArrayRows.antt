-- The rows of an array.
use Rattle.std.proofs.Common.{◌≡◌, List, [], ◌∷◌, refl, ap}
use Rattle.toml.specs.Data.{Data}
use Rattle.toml.specs.View.{items_of}
use Rattle.configuration_rows.specs.Values.{items_list}

pub rows_of_items : (ds : List Data) → items_list (items_of ds) ≡ ds
rows_of_items [] = refl
rows_of_items (d ∷ ds) = ap (λ es. d ∷ es) (rows_of_items ds)
