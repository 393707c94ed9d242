-- A rule that changes the rows of a name changes them where they stand.
use Rattle.std.proofs.Common.{◌≡◌, Bool, cond, List, [], ◌∷◌, filter_map, Option, Some, inl, inr, refl, sym, ◌∙◌, ap}
use Rattle.std.specs.Str.{bytes_eq}
use Rattle.std.specs.List.{cons_option}
use Rattle.sso_base.specs.Words.{Word}
use Rattle.sso_base.proofs.RowLaws.{bool_cases}
use Rattle.held_rows.specs.Held.{changed}

pub kept_changed : {R : Type 0} (name : R → Word) (w : Word) (change : R → R) (k : R → Option R) (rows : List R) → ((r : R) → k r ≡ cond (bytes_eq (name r) w) (Some (change r)) (Some r)) → filter_map k rows ≡ changed name w change rows
kept_changed name w change k [] same = refl
kept_changed {R} name w change k (r ∷ rs) same =
    let again : filter_map k rs ≡ changed name w change rs = kept_changed name w change k rs same in
    let F : Option R → List R = λ o. cons_option o (filter_map k rs) in
    let B : Bool → List R = λ b. cons_option (cond b (Some (change r)) (Some r)) (filter_map k rs) in
    let C : Bool → List R = λ b. cond b (change r) r ∷ changed name w change rs in
    let push : List R → List R = λ xs. r ∷ xs in
    let made : List R → List R = λ xs. change r ∷ xs in
    elim (bool_cases (bytes_eq (name r) w)) [
      | inl e ↦ ap F (same r) ∙ ap B e ∙ ap made again ∙ sym (ap C e)
      | inr e ↦ ap F (same r) ∙ ap B e ∙ ap push again ∙ sym (ap C e)
    ]
