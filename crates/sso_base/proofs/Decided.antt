-- Tests that are met, or not, and what they say.
use Rattle.std.proofs.Common.{◌≡◌, ◌<◌, ◌≤◌, ℕ, List, Bool, true, false, not, nat_lt, nat_le, refl, arith}
use Rattle.std.proofs.lemmas.Grind.{common_steps}
use Rattle.std.specs.Str.{bytes_eq}
use Rattle.std.proofs.lemmas.Slice.Eq.{bytes_eq-Decides}

pub not_late : (a b : ℕ) → a < b → nat_le b a ≡ false
not_late a b h = grind (arith, common_steps)

pub late_false : (a b : ℕ) → nat_le b a ≡ false → a < b
late_false a b h = grind (arith, common_steps)

pub not_above : (a b : ℕ) → a ≤ b → nat_lt b a ≡ false
not_above a b h = grind (arith, common_steps)

pub above_false : (a b : ℕ) → nat_lt b a ≡ false → a ≤ b
above_false a b h = grind (arith, common_steps)

pub not_not : (b : Bool) → not b ≡ false → b ≡ true
not_not true h = refl
not_not false h = absurd (cc)

pub same : (s t : List ℕ) → s ≡ t → bytes_eq s t ≡ true
same s t = (bytes_eq-Decides s t).1

pub are_same : (s t : List ℕ) → not (bytes_eq s t) ≡ false → s ≡ t
are_same s t h = (bytes_eq-Decides s t).0 (not_not (bytes_eq s t) h)
