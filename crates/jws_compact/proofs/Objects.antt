-- When bytes are the text of an object.
use Rattle.std.proofs.Common.{◌≡◌, List, ℕ, Some, None, option_and_then, is_some, Bool, true, false, cond, refl}
use Rattle.std.specs.Str.{IsUtf8, is_utf8}
use Rattle.std.proofs.lemmas.Str.{IsUtf8-from_is_utf8, is_utf8-from_IsUtf8}
use Rattle.serde_json.specs.Data.{Data}
use Rattle.serde_json.specs.Read.{read}
use Rattle.serde_json.specs.Find.{as_object}
use Rattle.jws_compact.specs.Jws.{read_object, if_object}

pub object_read : (b : List ℕ) (d : Data) → IsUtf8 b → read b ≡ Some d → is_some (as_object d) ≡ true → Some d ≡ read_object b
unfolding read_object
object_read b d u r o = rw (is_utf8-from_IsUtf8 b u, r, o)

refused_at : (b : List ℕ) (t : Bool) → is_utf8 b ≡ t → (IsUtf8 b → read b ≡ None) → None ≡ cond t (option_and_then if_object (read b)) None
refused_at b true is h = rw (h (IsUtf8-from_is_utf8 b is))
refused_at b false is h = refl

pub object_refused : (b : List ℕ) → (IsUtf8 b → read b ≡ None) → None ≡ read_object b
unfolding read_object
object_refused b h = refused_at b (is_utf8 b) refl h
