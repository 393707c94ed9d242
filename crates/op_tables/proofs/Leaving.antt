-- One row fewer: how many rows are left without a name.
use Rattle.std.proofs.Common.{◌≡◌, ℕ, suc, Bool, cond, List, [], ◌∷◌, length, Option, Some, sym, ◌∙◌, ap, inl, inr}
use Rattle.std.specs.Str.{bytes_eq}
use Rattle.sso_base.specs.Words.{Word}
use Rattle.sso_base.specs.Rows.{without, row_of}
use Rattle.sso_base.specs.Stands.{IsDistinct}
use Rattle.sso_base.proofs.RowLaws.{bool_cases, bytes_same}
use Rattle.held_rows.proofs.Kept.{without_none}

-- the row of the name leaves the others
pub length-without : {R : Type 0} (name : R → Word) (v : Word) (rows : List R) (row : R) → IsDistinct name rows → row_of name v rows ≡ Some row → suc (length (without name v rows)) ≡ length rows
length-without name v [] row d h = cc
length-without {R} name v (r ∷ rs) row d h =
    let G : Bool → Option R = λ b. cond b (Some r) (row_of name v rs) in
    let F : Bool → List R = λ b. cond b (without name v rs) (r ∷ without name v rs) in
    let L : List R → ℕ = λ x. suc (length x) in
    let N : Word → Option R = λ w. row_of name w rs in
    elim (bool_cases (bytes_eq (name r) v)) [
      | inl e ↦ ap L (ap F e ∙ without_none name v rs (sym (ap N (bytes_same (name r) v e)) ∙ d.0))
      | inr e ↦ ap L (ap F e) ∙ ap suc (length-without name v rs row d.1 (sym (ap G e) ∙ h))
    ]
