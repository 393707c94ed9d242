-- What is spelled in base64url is a text of printable ASCII.
use Rattle.std.proofs.Common.{◌≡◌, ◌<◌, ◌+◌, ◌*◌, ◌/◌, ◌%◌, ℕ, zero, suc, true, List, [], ◌∷◌, length, get_or, refl, arith, append-nil}
use Rattle.base64.specs.Engines.{url_safe_no_pad}
use Rattle.base64.specs.Rfc4648.{encode_symbols}
use Rattle.base64.specs.GeneralPurpose.{IsBytes}
use Rattle.sso_base.specs.Base64Url.{b64u}
use Rattle.sso_base.proofs.Spelling.{both_true}
use Rattle.claim_set.proofs.PlainTexts.{is_printable, is_plain}

at_place : (t : List ℕ) (i : ℕ) → is_plain t ≡ true → i < length t → is_printable (get_or t i 0) ≡ true
at_place [] i h l = absurd (omega (arith, l))
at_place (b ∷ t) zero h l = (both_true (is_printable b) (is_plain t) h).0
at_place (b ∷ t) (suc i) h l = at_place t i (both_true (is_printable b) (is_plain t) h).1 (omega (arith, l))

module _ (t : List ℕ) (long : length t ≡ 64) (all : is_plain t ≡ true) where
  one : (i : ℕ) → i < 64 → is_printable (get_or t i 0) ≡ true
  one i h = at_place t i all (omega (arith, long, h))

  first : (a : ℕ) → a < 256 → is_printable (get_or t (a / 4) 0) ≡ true
  first a h = one (a / 4) (omega (arith, h))

  second : (a b : ℕ) → b < 256 → is_printable (get_or t (a % 4 * 16 + b / 16) 0) ≡ true
  second a b h = one (a % 4 * 16 + b / 16) (omega (arith, h))

  third : (b c : ℕ) → c < 256 → is_printable (get_or t (b % 16 * 4 + c / 64) 0) ≡ true
  third b c h = one (b % 16 * 4 + c / 64) (omega (arith, h))

  symbols : (m : List ℕ) → IsBytes m → is_plain (encode_symbols t m) ≡ true
  unfolding encode_symbols
  symbols [] h = refl
  symbols (a ∷ []) h = rw (first a (h 0), one (a % 4 * 16) (omega arith))
  symbols (a ∷ b ∷ []) h = rw (first a (h 0), second a b (h 1), one (b % 16 * 4) (omega arith))
  symbols (a ∷ b ∷ c ∷ rest) h =
      rw (first a (h 0), second a b (h 1), third b c (h 2), one (c % 64) (omega arith), symbols rest (λ i. h (suc (suc (suc i)))))

pub b64u_is_plain : (m : List ℕ) → IsBytes m → is_plain (b64u m) ≡ true
unfolding b64u
b64u_is_plain m h = rw append-nil (symbols url_safe_no_pad.encode_table refl refl m h)
