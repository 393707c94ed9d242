-- Moments, weights and lengths of histories.
use Rattle.std.proofs.Common.{◌≡◌, ◌≤◌, ℕ, suc, nat_lt, cond, List, [], ◌∷◌, ◌++◌, length, refl, ap, arith}

pub low_twice : (a b c : ℕ) → a ≤ b → b ≤ c → a ≤ c
low_twice a b c l m = omega (arith, l, m)

pub low_through : (last end at : ℕ) → last ≡ end → end ≤ at → last ≤ at
low_through last end at same low = omega (arith, same, low)

pub none_heavy : (most w : ℕ) → w ≡ 0 → w ≤ most
none_heavy most w none = omega (arith, none)

pub one_longer : {X : Type 0} (l : List X) (x : X) → length (l ++ x ∷ []) ≡ suc (length l)
one_longer [] x = refl
one_longer (y ∷ l) x = ap suc (one_longer l x)

-- the moment of an entry that is not before the last one is its own
pub later_moment : (n at : ℕ) → n ≤ at → cond (nat_lt at n) n at ≡ at
later_moment n at low = grind (arith, low)
