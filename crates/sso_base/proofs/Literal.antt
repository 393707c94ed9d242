-- A row is found after a past if and only if it literally stands.
use Rattle.std.proofs.Common.{◌≡◌, Bool, false, cond, List, [], ◌∷◌, ◌++◌, Option, Some, None, option_and_then, inl, inr, refl, sym, ◌∙◌, ap, subst}
use Rattle.sso_base.specs.Words.{Word}
use Rattle.sso_base.specs.Rows.{row_of, rows_by}
use Rattle.sso_base.specs.Stands.{is_named, carried, NoneMakes, Stands, KeepsNames}
use Rattle.sso_base.proofs.RowLaws.{bool_cases, option_cases, bytes_same, bytes_true, row_of-more}

stands_kept : {P R : Type 0} (name : R → Word) (made : List R → List P → P → Option R) (kept : List P → P → R → Option R) (w : Word) (p : P) (past : List P) (before row : R)
    → is_named name w (made (rows_by name made kept past) past p) ≡ false → kept past p before ≡ Some row → Stands name made kept past w before → Stands name made kept (p ∷ past) w row
stands_kept {P} {R} name made kept w p past before row other left s =
    let N : List P → Type 0 = λ x. is_named name w (made (rows_by name made kept x) x p) ≡ false in
    let K : List P → Type 0 = λ x. kept x p before ≡ Some row in
    let A : Option R → Option R = λ o. option_and_then (kept (s.later ++ s.maker ∷ s.earlier) p) o in
    let grow : List P → List P = λ x. p ∷ x in
    record {
      later = p ∷ s.later;
      maker = s.maker;
      earlier = s.earlier;
      first = s.first;
      parts = ap grow s.parts;
      makes = s.makes;
      named = s.named;
      unmade = (subst N s.parts other, s.unmade);
      stays = ap A s.stays ∙ subst K s.parts left;
    }

pub stands-row_of : {P R : Type 0} (name : R → Word) (made : List R → List P → P → Option R) (kept : List P → P → R → Option R) → KeepsNames name kept
    → (w : Word) (past : List P) (row : R) → row_of name w (rows_by name made kept past) ≡ Some row → Stands name made kept past w row
stands-row_of name made kept names w [] row h = cc
stands-row_of {P} {R} name made kept names w (p ∷ past) row h =
    let m : Option R = made (rows_by name made kept past) past p in
    let held : Option R = row_of name w (rows_by name made kept past) in
    let A : Option R → Option R = λ o. option_and_then (kept past p) o in
    let F : Bool → Option R = λ b. cond b m (option_and_then (kept past p) held) in
    let I : Option R → Bool = λ o. is_named name w o in
    let told : F (is_named name w m) ≡ Some row = sym (row_of-more name made kept names w p past) ∙ h in
    elim (bool_cases (is_named name w m)) [
      | inl e ↦
          (let here : m ≡ Some row = sym (ap F e) ∙ told in
          record {
            later = [];
            maker = p;
            earlier = past;
            first = row;
            parts = refl;
            makes = here;
            named = bytes_same (name row) w (sym (ap I here) ∙ e);
            unmade = tt;
            stays = refl;
          })
      | inr e ↦
          (let rest : option_and_then (kept past p) held ≡ Some row = sym (ap F e) ∙ told in
          elim (option_cases held) [
            | inl none ↦ (let never : A None ≡ Some row = sym (ap A none) ∙ rest in cc)
            | inr some ↦ stands_kept name made kept w p past some.0 row e (sym (ap A some.1) ∙ rest) (stands-row_of name made kept names w past some.0 some.1)
          ])
    ]

found_from : {P R : Type 0} (name : R → Word) (made : List R → List P → P → Option R) (kept : List P → P → R → Option R) → KeepsNames name kept
    → (w : Word) (later : List P) (maker : P) (earlier : List P) (first row : R) → made (rows_by name made kept earlier) earlier maker ≡ Some first → name first ≡ w
    → NoneMakes name made kept w later (maker ∷ earlier) → carried kept later (maker ∷ earlier) first ≡ Some row
    → row_of name w (rows_by name made kept (later ++ maker ∷ earlier)) ≡ Some row
found_from {P} {R} name made kept names w [] maker earlier first row makes named unmade stays =
    let m : Option R = made (rows_by name made kept earlier) earlier maker in
    let F : Bool → Option R = λ b. cond b m (option_and_then (kept earlier maker) (row_of name w (rows_by name made kept earlier))) in
    let I : Option R → Bool = λ o. is_named name w o in
    row_of-more name made kept names w maker earlier ∙ ap F (ap I makes ∙ bytes_true (name first) w named) ∙ makes ∙ stays
found_from {P} {R} name made kept names w (p ∷ later) maker earlier first row makes named unmade stays =
    let past : List P = later ++ maker ∷ earlier in
    let m : Option R = made (rows_by name made kept past) past p in
    let A : Option R → Option R = λ o. option_and_then (kept past p) o in
    let F : Bool → Option R = λ b. cond b m (option_and_then (kept past p) (row_of name w (rows_by name made kept past))) in
    elim (option_cases (carried kept later (maker ∷ earlier) first)) [
      | inl none ↦ (let never : A None ≡ Some row = sym (ap A none) ∙ stays in cc)
      | inr some ↦
          row_of-more name made kept names w p past ∙ ap F unmade.0
          ∙ ap A (found_from name made kept names w later maker earlier first some.0 makes named unmade.1 some.1)
          ∙ sym (ap A some.1) ∙ stays
    ]

pub row_of-stands : {P R : Type 0} (name : R → Word) (made : List R → List P → P → Option R) (kept : List P → P → R → Option R) → KeepsNames name kept
    → (w : Word) (past : List P) (row : R) → Stands name made kept past w row → row_of name w (rows_by name made kept past) ≡ Some row
row_of-stands {P} {R} name made kept names w past row s =
    let Q : List P → Type 0 = λ x. row_of name w (rows_by name made kept x) ≡ Some row in
    subst Q (sym s.parts) (found_from name made kept names w s.later s.maker s.earlier s.first row s.makes s.named s.unmade s.stays)
