-- Places by their numbers.
use Rattle.std.proofs.Common.{◌≡◌, ℕ, suc, ◌≤◌, ◌==◌, Bool, cond, [], ◌∷◌, length, Option, Some, inl, inr, refl, sym, ap, ◌∙◌, eq-eqb, ne_eqb, arith}
use Rattle.std.proofs.lemmas.Bool.{eqb-true}
use Rattle.std.proofs.lemmas.Option.{same_Some}
use Rattle.sso_base.proofs.RowLaws.{bool_cases}
use Rattle.sso_model.specs.Lists.{Has}
use Rattle.sso_places.specs.World.{Place, World, place_at}

pub place_at_last : (x : Place) (world : World) → place_at (x ∷ world) (suc (length world)) ≡ Some x
place_at_last x world =
    let F : Bool → Option Place = λ b. cond b (Some x) (place_at world (suc (length world))) in
    ap F (eq-eqb (suc (length world)) (suc (length world)) refl)

pub place_at_before : (x : Place) (world : World) (number : ℕ) → number ≤ length world → place_at (x ∷ world) number ≡ place_at world number
place_at_before x world number low =
    let F : Bool → Option Place = λ b. cond b (Some x) (place_at world number) in
    ap F (ne_eqb number (suc (length world)) (λ same. absurd (omega arith)))

-- a place of the world has a number up to its length
pub place_at_low : (world : World) (number : ℕ) (x : Place) → place_at world number ≡ Some x → number ≤ length world
place_at_low [] number x at = cc
place_at_low (y ∷ world) number x at =
    let F : Bool → Option Place = λ b. cond b (Some y) (place_at world number) in
    elim (bool_cases (number == suc (length world))) [
      | inl e ↦ (let same : number ≡ suc (length world) = eqb-true number (suc (length world)) e in omega arith)
      | inr e ↦ (let low : number ≤ length world = place_at_low world number x (sym (ap F e) ∙ at) in omega arith)
    ]

-- and is one of its places
pub place_at_has : (world : World) (number : ℕ) (x : Place) → place_at world number ≡ Some x → Has world x
place_at_has [] number x at = cc
place_at_has (y ∷ world) number x at =
    let F : Bool → Option Place = λ b. cond b (Some y) (place_at world number) in
    elim (bool_cases (number == suc (length world))) [
      | inl e ↦ inl (same_Some y x (sym (ap F e) ∙ at))
      | inr e ↦ inr (place_at_has world number x (sym (ap F e) ∙ at))
    ]
