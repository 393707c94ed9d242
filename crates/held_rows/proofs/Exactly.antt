-- A test of the thing that a row may have, as an equation.
use Rattle.std.proofs.Common.{◌≡◌, ℕ, Bool, true, false, List, Option, Some, None, inl, inr, refl, ap, sym, ◌∙◌}
use Rattle.std.specs.Str.{bytes_eq}
use Rattle.sso_base.specs.Words.{is_word}
use Rattle.sso_base.proofs.RowLaws.{bool_cases, bytes_same, bytes_true}

-- a test that holds if and only if it has these bytes
pub has_exactly : (b : Bool) (held : Option (List ℕ)) (bytes : List ℕ) → (b ≡ true → held ≡ Some bytes) → (held ≡ Some bytes → b ≡ true)
    → b ≡ is_word held bytes
has_exactly true held bytes has passes = sym (ap (λ (o : Option (List ℕ)). is_word o bytes) (has refl) ∙ bytes_true bytes bytes refl)
has_exactly false None bytes has passes = refl
has_exactly false (Some v) bytes has passes =
    elim (bool_cases (bytes_eq v bytes)) [
      | inl e ↦ (let k : false ≡ true = passes (ap Some (bytes_same v bytes e)) in cc)
      | inr e ↦ sym e
    ]
