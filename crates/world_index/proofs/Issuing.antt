-- An issued word is noted under its half hash, if there was none, and under no other.
use Rattle.std.proofs.Common.{◌≡◌, ℕ, cond, List, Option, Some, None, inl, inr, refl, sym, ap, ◌∙◌, subst}
use Rattle.std.specs.Str.{bytes_eq}
use Rattle.std.specs.Option.{option_or}
use Rattle.sso_base.specs.Words.{Word, Text}
use Rattle.sso_base.proofs.RowLaws.{bool_cases, bytes_same}
use Rattle.world_index.specs.declared.halves.Issued.{Issued}
use Rattle.sso_places.specs.Premises.{half_digest}
use Rattle.world_index.specs.Issuing.{issued_of, issued_as}

first_none : (o : Option Issued) → o ≡ option_or o None
first_none None = refl
first_none (Some i) = refl

abbrev pub record_of : Word → ℕ → Issued
record_of w place = record { word = w; place = place }

-- what `insert` of the map does
abbrev pub IsUpdated : List (Text × Issued) → List (Text × Issued) → Text → Issued → Type 0
IsUpdated before after half issued = (h : Text) → issued_of after h ≡ cond (bytes_eq half h) (Some issued) (issued_of before h)

pub inserted : (before after : List (Text × Issued)) (w : Word) (place : ℕ) → issued_of before (half_digest w) ≡ None → IsUpdated before after (half_digest w) (record_of w place) → (half : Text) → issued_of after half ≡ option_or (issued_of before half) (issued_as half w place)
inserted before after w place absent updated half =
    let new : Option Issued = Some (record_of w place) in
    let now : issued_of after half ≡ cond (bytes_eq (half_digest w) half) new (issued_of before half) = updated half in
    elim (bool_cases (bytes_eq (half_digest w) half)) [
      | inl e ↦
          (let same : half_digest w ≡ half = bytes_same (half_digest w) half e in
          let none : issued_of before half ≡ None = ap (issued_of before) (sym same) ∙ absent in
          now
          ∙ ap (λ b. cond b new (issued_of before half)) e
          ∙ sym (ap (λ b. option_or (issued_of before half) (cond b new None)) e ∙ ap (λ o. option_or o new) none))
      | inr e ↦
          now
          ∙ ap (λ b. cond b new (issued_of before half)) e
          ∙ first_none (issued_of before half)
          ∙ sym (ap (λ b. option_or (issued_of before half) (cond b new None)) e)
    ]

pub stays : (before : List (Text × Issued)) (w : Word) (place : ℕ) (i : Issued) → issued_of before (half_digest w) ≡ Some i → (half : Text) → issued_of before half ≡ option_or (issued_of before half) (issued_as half w place)
stays before w place i there half =
    let new : Option Issued = Some (record_of w place) in
    elim (bool_cases (bytes_eq (half_digest w) half)) [
      | inl e ↦
          (let same : half_digest w ≡ half = bytes_same (half_digest w) half e in
          let some : issued_of before half ≡ Some i = ap (issued_of before) (sym same) ∙ there in
          some ∙ sym (ap (λ o. option_or o (issued_as half w place)) some))
      | inr e ↦ first_none (issued_of before half) ∙ sym (ap (λ b. option_or (issued_of before half) (cond b new None)) e)
    ]

-- the same, where the half digest was computed
pub inserted_at : (before after : List (Text × Issued)) (w : Word) (place : ℕ) (half0 : Text) → half0 ≡ half_digest w → issued_of before half0 ≡ None → IsUpdated before after half0 (record_of w place) → (half : Text) → issued_of after half ≡ option_or (issued_of before half) (issued_as half w place)
inserted_at before after w place half0 is absent updated =
    let N : Text → Type 0 = λ h. issued_of before h ≡ None in
    let U : Text → Type 0 = λ h. IsUpdated before after h (record_of w place) in
    inserted before after w place (subst N is absent) (subst U is updated)
