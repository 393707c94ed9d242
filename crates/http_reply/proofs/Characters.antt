-- Characters that the text of a word does not have.
use Rattle.std.proofs.Common.{◌≡◌, ℕ, zero, suc, ◌+◌, ◌*◌, ◌/◌, ◌%◌, Bool, true, false, ◌||◌, List, [], ◌∷◌, get_or, refl, true≢false, append-nil}
use Rattle.std.specs.List.{list_any}
use Rattle.base64.specs.Engines.{url_safe_no_pad}
use Rattle.base64.specs.Rfc4648.{encode_symbols}
use Rattle.sso_base.specs.Base64Url.{b64u}
use Rattle.sso_base.specs.Words.{Word, word_text}

pub both_false : (a b : Bool) → (a || b) ≡ false → (a ≡ false) × (b ≡ false)
both_false false false e = (refl, refl)
both_false false true e = absurd (true≢false e)
both_false true b e = absurd (true≢false e)

pub or_none : (a b : Bool) → a ≡ false → b ≡ false → (a || b) ≡ false
or_none false b e f = f
or_none true b e f = absurd (true≢false e)

at_none : (q : ℕ → Bool) (xs : List ℕ) (i : ℕ) → q 0 ≡ false → list_any q xs ≡ false → q (get_or xs i 0) ≡ false
at_none q [] i z e = z
at_none q (x ∷ xs) zero z e = (both_false (q x) (list_any q xs) e).0
at_none q (x ∷ xs) (suc i) z e = at_none q xs i z (both_false (q x) (list_any q xs) e).1

module _ (q : ℕ → Bool) (z : q 0 ≡ false) (t : List ℕ) (none : list_any q t ≡ false) where
  one : (i : ℕ) → q (get_or t i 0) ≡ false
  one i = at_none q t i z none

  symbols : (m : List ℕ) → list_any q (encode_symbols t m) ≡ false
  unfolding encode_symbols
  symbols [] = refl
  symbols (a ∷ []) = rw (one (a / 4), one (a % 4 * 16))
  symbols (a ∷ b ∷ []) = rw (one (a / 4), one (a % 4 * 16 + b / 16), one (b % 16 * 4))
  symbols (a ∷ b ∷ c ∷ rest) = rw (one (a / 4), one (a % 4 * 16 + b / 16), one (b % 16 * 4 + c / 64), one (c % 64), symbols rest)

-- a character that base64url does not have is in no word's text
pub not_in_word_text : (q : ℕ → Bool) → q 0 ≡ false → list_any q url_safe_no_pad.encode_table ≡ false → (w : Word) → list_any q (word_text w) ≡ false
unfolding b64u
not_in_word_text q z none w = rw append-nil (symbols q z url_safe_no_pad.encode_table none w)
