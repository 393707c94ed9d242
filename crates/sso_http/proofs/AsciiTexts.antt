-- A value in ASCII is a text.
use Rattle.std.proofs.Common.{◌≡◌, ℕ, suc, zero, ◌<◌, nat_lt, true, List, [], ◌∷◌, get_or, Result, Ok, Err, arith, refl}
use Rattle.std.proofs.lemmas.Bool.{and_parts, ltb-true}
use Rattle.std.proofs.lemmas.Str.{IsUtf8-from_ascii}
use Rattle.std.specs.Str.{IsUtf8}
use Rattle.std.specs.Result.{IsOk, MatchResult}
use Rattle.sso_base.specs.Texts.{is_ascii}

ascii_below : (bs : List ℕ) (i : ℕ) → is_ascii bs ≡ true → get_or bs i 0 < 128
ascii_below [] i h = omega arith
ascii_below (x ∷ xs) zero h = ltb-true x 128 (and_parts (nat_lt x 128) (is_ascii xs) h).0
ascii_below (x ∷ xs) (suc i) h = ascii_below xs i (and_parts (nat_lt x 128) (is_ascii xs) h).1

pub ascii_utf8 : (bs : List ℕ) → is_ascii bs ≡ true → IsUtf8 bs
ascii_utf8 bs h = IsUtf8-from_ascii bs (λ i. ascii_below bs i h)

-- what can fail only without this is no failure with it
pub ok_where : {T E : Type 0} (P : T → Type 0) (Q : E → Type 0) (U : Type 0) (r : Result T E) → U → MatchResult r P (λ e. (U → ⊥) × Q e) → IsOk r
ok_where P Q U (Ok x) u h = refl
ok_where P Q U (Err e) u h = absurd (h.0 u)
