-- A line of visible ASCII and spaces is a text.
use Rattle.std.proofs.Common.{◌≡◌, ℕ, suc, zero, ◌<◌, ◌≤◌, ◌&&◌, nat_le, true, List, [], ◌∷◌, get_or, Result, Ok, Err, arith, refl}
use Rattle.std.proofs.lemmas.Bool.{and_parts, leb-true}
use Rattle.std.proofs.lemmas.Str.{IsUtf8-from_ascii}
use Rattle.std.specs.Str.{IsUtf8}
use Rattle.std.specs.Result.{IsOk, MatchResult}
use Rattle.trace_lines.specs.LineWords.{is_plain}

-- such a byte is ASCII
below : (x : ℕ) → (nat_le 32 x && nat_le x 126) ≡ true → x < 128
below x h = let p : nat_le x 126 ≡ true = (and_parts (nat_le 32 x) (nat_le x 126) h).1 in let q : x ≤ 126 = leb-true x 126 p in omega arith

pub plain_below : (bs : List ℕ) (i : ℕ) → is_plain bs ≡ true → get_or bs i 0 < 128
plain_below [] i h = omega arith
plain_below (x ∷ xs) zero h = below x (and_parts (nat_le 32 x && nat_le x 126) (is_plain xs) h).0
plain_below (x ∷ xs) (suc i) h = plain_below xs i (and_parts (nat_le 32 x && nat_le x 126) (is_plain xs) h).1

-- so the line is a text
pub plain_utf8 : (bs : List ℕ) → is_plain bs ≡ true → IsUtf8 bs
plain_utf8 bs h = IsUtf8-from_ascii bs (λ i. plain_below bs i h)

-- what can fail only without this is no failure with it
pub ok_where : {T E : Type 0} (P : T → Type 0) (Q : E → Type 0) (U : Type 0) (r : Result T E) → U → MatchResult r P (λ e. (U → ⊥) × Q e) → IsOk r
ok_where P Q U (Ok x) u h = refl
ok_where P Q U (Err e) u h = absurd (h.0 u)
