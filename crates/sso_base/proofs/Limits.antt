-- The greatest weight of a history is a number of 63 bits, and what is stored weighs at most 268,435,456. A weight that is cut off
-- at 64 bits is as good for a comparison with a smaller number.
use Rattle.std.proofs.Common.{◌≡◌, ◌≤◌, ◌<◌, ◌^◌, ◌-◌, ℕ, Bool, true, false, nat_lt, nat_le, ltb-false, refl, sym, subst, ◌∙◌, arith}
use Rattle.std.proofs.lemmas.Bool.{lt-leb}
use Rattle.std.specs.Prelude.{if◌then◌else◌}
use Rattle.sso_base.specs.Journal.{most_weight, most_of}
use Rattle.sso_base.specs.Weights.{told_weight}

pub most_is_short : (lasts : Bool) → most_of lasts < 2 ^ 63
most_is_short true = omega arith
most_is_short false = omega arith

pub stored_is_light : (lasts : Bool) (weight : ℕ) → lasts ≡ false → weight ≤ most_of lasts → weight ≤ most_weight
stored_is_light lasts weight stored light = subst (λ (b : Bool). weight ≤ most_of b) stored light

within_by : (n most : ℕ) (short : Bool) → most < 2 ^ 64 - 1 → nat_lt n (2 ^ 64) ≡ short → nat_le (if short then n else 2 ^ 64 - 1) most ≡ nat_le n most
within_by n most true low is = refl
within_by n most false low is =
    let far = ltb-false n (2 ^ 64) is in
    lt-leb (2 ^ 64 - 1) most low ∙ sym (lt-leb n most (omega (arith, far, low)))

pub told_within : (n most : ℕ) → most < 2 ^ 64 - 1 → nat_le (told_weight n) most ≡ nat_le n most
told_within n most low = within_by n most (nat_lt n (2 ^ 64)) low refl
