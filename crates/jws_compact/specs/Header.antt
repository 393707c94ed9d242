-- The facts that the code keeps about a header.
use Rattle.std.specs.Prelude.{◌≡◌, ℕ, List, Some}
use Rattle.serde_json.specs.Data.{Data}
use Rattle.jws_compact.specs.declared.header.Header.{Header}
use Rattle.jws_compact.specs.Jws.{read_object, is_hs256, has_crit, typ_of}

-- f has the facts about the header h
abbrev pub IsHeaderOf : List ℕ → Header → Type 0
IsHeaderOf h f = (d : Data) × (read_object h ≡ Some d) × (f.hs256 ≡ is_hs256 d) × (f.critical ≡ has_crit d) × (f.typ ≡ typ_of h)
