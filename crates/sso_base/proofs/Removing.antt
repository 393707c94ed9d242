-- What is left where the rows of one name are removed.
use Rattle.std.proofs.Common.{◌≡◌, Bool, not, cond, List, [], ◌∷◌, filter, refl, sym, ◌∙◌, ap, inl, inr}
use Rattle.std.specs.Str.{bytes_eq}
use Rattle.sso_base.specs.Words.{Word}
use Rattle.sso_base.specs.Rows.{without}
use Rattle.sso_base.proofs.RowLaws.{bool_cases}

pub filter-without : {R : Type 0} (name : R → Word) (w : Word) (rows : List R) → filter (λ row. not (bytes_eq (name row) w)) rows ≡ without name w rows
filter-without name w [] = refl
filter-without {R} name w (r ∷ rs) =
    let F : Bool → List R = λ b. cond (not b) (r ∷ filter (λ row. not (bytes_eq (name row) w)) rs) (filter (λ row. not (bytes_eq (name row) w)) rs) in
    let G : Bool → List R = λ b. cond b (without name w rs) (r ∷ without name w rs) in
    elim (bool_cases (bytes_eq (name r) w)) [
      | inl e ↦ ap F e ∙ filter-without name w rs ∙ sym (ap G e)
      | inr e ↦ ap F e ∙ ap (λ (x : List R). r ∷ x) (filter-without name w rs) ∙ sym (ap G e)
    ]
