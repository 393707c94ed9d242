-- The paths of a configuration's keys, as they are printed: client[0].secret.
use Rattle.std.specs.Prelude.{ℕ, List, [], ◌∷◌, ◌++◌, codes, decimal}
use Rattle.configuration_rows.specs.declared.row.Row.{Row}
use Rattle.configuration_rows.specs.declared.row.Row.TheVariants.{Provider, User, Client, Party}

-- a table's name and an index, counted from 0
abbrev pub place_text : List ℕ → ℕ → List ℕ
place_text name place = name ++ 91 ∷ (decimal place ++ 93 ∷ [])

abbrev pub row_text : Row → List ℕ
row_text Provider = codes "provider"
row_text (User place) = place_text (codes "user") place
row_text (Client place) = place_text (codes "client") place
row_text (Party place) = place_text (codes "party") place

-- the path of a key of a row
abbrev pub path_text : Row → List ℕ → List ℕ
path_text row key = row_text row ++ 46 ∷ key
