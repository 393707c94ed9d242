-- The table of which bytes are the TOML text.
use Rattle.std.proofs.Common.{◌≡◌, List, ℕ, Some, None, option_map, Bool, true, false, cond, refl, ap}
use Rattle.std.specs.Str.{IsUtf8, is_utf8}
use Rattle.std.proofs.lemmas.Str.{IsUtf8-from_is_utf8, is_utf8-from_IsUtf8}
use Rattle.toml.specs.Data.{Members, table}
use Rattle.toml.specs.Parse.{parse_document}
use Rattle.client_registry.specs.Reading.{document_in}

pub document_read : (b : List ℕ) (ms : Members) → IsUtf8 b → parse_document b ≡ Some ms → document_in b ≡ Some (table ms)
unfolding document_in
document_read b ms u r = rw (is_utf8-from_IsUtf8 b u, r)

refused_at : (b : List ℕ) (t : Bool) → is_utf8 b ≡ t → (IsUtf8 b → parse_document b ≡ None) → cond t (option_map table (parse_document b)) None ≡ None
refused_at b true is h = ap (option_map table) (h (IsUtf8-from_is_utf8 b is))
refused_at b false is h = refl

pub document_refused : (b : List ℕ) → (IsUtf8 b → parse_document b ≡ None) → document_in b ≡ None
unfolding document_in
document_refused b h = refused_at b (is_utf8 b) refl h
