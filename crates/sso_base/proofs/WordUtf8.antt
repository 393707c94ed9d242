-- The text of a word is UTF-8, so it is read as a text.
use Rattle.std.proofs.Common.{◌≡◌, List, ℕ, Option, Some, None, Result, Ok, Err, refl, sym, subst}
use Rattle.std.specs.Prelude.{IfSome, option_map}
use Rattle.std.specs.Result.{IsOk, MatchResult}
use Rattle.std.specs.Str.{IsUtf8}
use Rattle.std.proofs.lemmas.Str.{IsUtf8-from_ascii}
use Rattle.base64.specs.Engines.{url_safe_no_pad}
use Rattle.base64.specs.GeneralPurpose.{encode_of}
use Rattle.base64.proofs.EngineFacts.{IsAscii-encode_of}
use Rattle.sso_base.specs.Base64Url.{b64u}
use Rattle.sso_base.specs.Words.{Word, word_text}

pub IsUtf8-word_text : (w : Word) → IsUtf8 (word_text w)
unfolding b64u
IsUtf8-word_text w = IsUtf8-from_ascii (encode_of url_safe_no_pad w) (IsAscii-encode_of url_safe_no_pad w)

pub IsUtf8-word_text_if : (o : Option Word) → IfSome (option_map word_text o) IsUtf8
IsUtf8-word_text_if None = tt
IsUtf8-word_text_if (Some w) = IsUtf8-word_text w

-- bytes that are a text in UTF-8 are read as one
pub is_text : {S E : Type 0} (b t : List ℕ) (r : Result S E) (P : S → Type 0) (Q : E → Type 0) → b ≡ t → IsUtf8 t → MatchResult r P (λ e. ¬ (IsUtf8 b) × Q e) → IsOk r
is_text b t (Ok s) P Q is u h = refl
is_text b t (Err e) P Q is u h = absurd (h.0 (subst IsUtf8 (sym is) u))
