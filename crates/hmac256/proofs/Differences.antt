-- When two bytes differ.
use Rattle.std.proofs.Common.{◌≡◌, ◌↔◌, ℕ, ap, ap₂, sym, ◌∙◌, arith}
use Rattle.std.specs.Prelude.{bit_xor, bit_or}
use Rattle.std.specs.Int.Bits.{xor_self, xor_zero_l, xor_zero_r, xor_assoc}
use Rattle.std.proofs.lemmas.Nat.{le_or_l, le_or_r}

bit_xor-zero : (a b : ℕ) → bit_xor a b ≡ 0 → a ≡ b
bit_xor-zero a b h =
    sym (xor_zero_r a) ∙ ap (bit_xor a) (sym (xor_self b)) ∙ sym (xor_assoc a b b) ∙ ap (λ x. bit_xor x b) h ∙ xor_zero_l b

-- a difference stays once it is there, and two equal bytes add none
pub difference_zero : (d a b : ℕ) → (bit_or d (bit_xor a b) ≡ 0) ↔ ((d ≡ 0) × (a ≡ b))
difference_zero d a b = (
  λ h. (omega (arith, le_or_l d (bit_xor a b), h), bit_xor-zero a b (omega (arith, le_or_r d (bit_xor a b), h))),
  λ h. ap₂ (λ x y. bit_or x (bit_xor y b)) h.0 h.1 ∙ xor_self b,
)
