-- One family left out, with its tokens.
use Rattle.std.proofs.Common.{◌≡◌, ◌<◌, ◌^◌, ℕ, nat_eq, Bool, true, false, not, ◌&&◌, cond, List, [], ◌∷◌, ◌++◌, filter, Option, Some, None, is_some, inl, inr, refl, ap, sym, ◌∙◌, subst, length}
use Rattle.std.proofs.lemmas.Bool.{and_from, eqb-true}
use Rattle.std.specs.List.{list_all}
use Rattle.std.specs.Str.{bytes_eq}
use Rattle.sso_base.specs.Words.{Word}
use Rattle.sso_base.specs.Rows.{row_of, without}
use Rattle.sso_base.specs.Stands.{IsDistinct}
use Rattle.sso_base.proofs.RowLaws.{bool_cases, bytes_same}
use Rattle.held_rows.proofs.HeldLaws.{some_has, shorter}
use Rattle.held_rows.proofs.Hits.{both_filtered}
use Rattle.held_rows.proofs.Kept.{without_none}
use Rattle.core_stack.proofs.Same.{some_same}
use Rattle.refresh_answer.specs.Places.{place_bytes}
use Rattle.refresh_answer.specs.Rows.{family_name}
use Rattle.refresh_answer.specs.Families.{family_at}
use Rattle.refresh_answer.specs.declared.rows.FamilyRow.{FamilyRow}
use Rattle.refresh_answer.proofs.Families.{true_false, other_number}
use Rattle.refresh_rows.specs.TokenRows.{is_of}
use Rattle.refresh_rows.specs.Booked.{ArePlaces}
use Rattle.refresh_rows.proofs.Keys.{place_same, number_same}
use Rattle.refresh_rows.proofs.Lists.{filter_same, all_weaker}

-- a family that does not pass is left out of those that do
pub left_out : (q : FamilyRow → Bool) (fs : List FamilyRow) (f : FamilyRow) → IsDistinct family_name fs → row_of family_name (family_name f) fs ≡ Some f → q f ≡ false
    → filter q (without family_name (family_name f) fs) ≡ filter q fs
left_out q [] f distinct there out = refl
left_out q (g ∷ gs) f distinct there out =
    let n : Word = family_name f in
    let F : Bool → Option FamilyRow = λ b. cond b (Some g) (row_of family_name n gs) in
    let W : Bool → List FamilyRow = λ b. cond b (without family_name n gs) (g ∷ without family_name n gs) in
    let V : Word → Option FamilyRow = λ v. row_of family_name v gs in
    let Q : List FamilyRow → List FamilyRow = λ l. filter q l in
    let C : Bool → List FamilyRow = λ b. cond b (g ∷ filter q gs) (filter q gs) in
    let D : List FamilyRow → List FamilyRow = λ l. cond (q g) (g ∷ l) l in
    elim (bool_cases (bytes_eq (family_name g) n)) [
      | inl e ↦
          (let same : g ≡ f = some_same g f (sym (ap F e) ∙ there) in
          let none : row_of family_name n gs ≡ None = sym (ap V (bytes_same (family_name g) n e)) ∙ distinct.0 in
          ap Q (ap W e ∙ without_none family_name n gs none) ∙ sym (ap C (ap q same ∙ out)))
      | inr e ↦ ap Q (ap W e) ∙ ap D (left_out q gs f distinct.1 (sym (ap F e) ∙ there) out)
    ]

-- ---- which families are left

and_not_true : (a : Bool) → false ≡ (a && not true)
and_not_true true = refl
and_not_true false = refl

pub without_of : (n m : ℕ) (fs : List FamilyRow) → n < 2 ^ 64 → ArePlaces fs → (is_of fs m && not (nat_eq m n)) ≡ is_of (without family_name (place_bytes n) fs) m
without_of n m [] low wide = refl
without_of n m (g ∷ gs) low wide =
    let again : (is_of gs m && not (nat_eq m n)) ≡ is_of (without family_name (place_bytes n) gs) m = without_of n m gs low wide.1 in
    let W : Bool → Bool = λ b. is_of (cond b (without family_name (place_bytes n) gs) (g ∷ without family_name (place_bytes n) gs)) m in
    let A : Bool → Bool = λ b. is_some (cond b (Some g) (family_at m gs)) && not (nat_eq m n) in
    let B : Bool → Bool = λ b. is_some (cond b (Some g) (family_at m (without family_name (place_bytes n) gs))) in
    let N : Bool → Bool = λ b. not b in
    let gone : Bool → Bool = λ b. is_of gs m && not b in
    elim (bool_cases (nat_eq g.by n)) [
      | inl e ↦
          (let dropped : bytes_eq (place_bytes g.by) (place_bytes n) ≡ true = place_same g.by n wide.0 low ∙ e in
          elim (bool_cases (nat_eq g.by m)) [
            | inl here ↦
                (let same : nat_eq m n ≡ true = number_same m n (sym (eqb-true g.by m here) ∙ eqb-true g.by n e) in
                ap A here ∙ ap N same ∙ and_not_true (is_of gs m) ∙ sym (ap gone same) ∙ again ∙ sym (ap W dropped))
            | inr there ↦ ap A there ∙ again ∙ sym (ap W dropped)
          ])
      | inr e ↦
          (let stays : bytes_eq (place_bytes g.by) (place_bytes n) ≡ false = place_same g.by n wide.0 low ∙ e in
          elim (bool_cases (nat_eq g.by m)) [
            | inl here ↦
                (let other : nat_eq m n ≡ false = other_number m n (λ same. true_false (sym (number_same g.by n (eqb-true g.by m here ∙ same)) ∙ e)) in
                ap A here ∙ ap N other ∙ sym (ap B here) ∙ sym (ap W stays))
            | inr there ↦ ap A there ∙ again ∙ sym (ap B there) ∙ sym (ap W stays)
          ])
    ]

-- the rows of the other families, of the rows of some families
pub rows_without : {X : Type 0} (family : X → ℕ) (n : ℕ) (fs : List FamilyRow) (rows : List X) → n < 2 ^ 64 → ArePlaces fs
    → filter (λ x. not (nat_eq (family x) n)) (filter (λ x. is_of fs (family x)) rows) ≡ filter (λ x. is_of (without family_name (place_bytes n) fs) (family x)) rows
rows_without family n fs rows low wide =
    both_filtered (λ x. is_of fs (family x)) (λ x. not (nat_eq (family x) n)) rows
    ∙ filter_same (λ x. is_of fs (family x) && not (nat_eq (family x) n)) (λ x. is_of (without family_name (place_bytes n) fs) (family x)) (λ x. without_of n (family x) fs low wide) rows

-- ---- families that are found

found_more : (f : FamilyRow) (fs : List FamilyRow) (n : ℕ) → is_of fs n ≡ true → is_of (f ∷ fs) n ≡ true
found_more f fs n there =
    let F : Bool → Bool = λ b. is_some (cond b (Some f) (family_at n fs)) in
    elim (bool_cases (nat_eq f.by n)) [ inl e ↦ ap F e | inr e ↦ ap F e ∙ there ]

found_first : (f : FamilyRow) (fs : List FamilyRow) → is_of (f ∷ fs) f.by ≡ true
found_first f fs = let F : Bool → Bool = λ b. is_some (cond b (Some f) (family_at f.by fs)) in ap F (number_same f.by f.by refl)

pub found_push : (fs : List FamilyRow) (f : FamilyRow) (n : ℕ) → is_of fs n ≡ true → is_of (fs ++ f ∷ []) n ≡ true
found_push [] f n there = absurd (true_false (sym there))
found_push (g ∷ gs) f n there =
    let F : Bool → Bool = λ b. is_some (cond b (Some g) (family_at n gs)) in
    let G : Bool → Bool = λ b. is_some (cond b (Some g) (family_at n (gs ++ f ∷ []))) in
    elim (bool_cases (nat_eq g.by n)) [
      | inl e ↦ ap G e
      | inr e ↦ ap G e ∙ found_push gs f n (sym (ap F e) ∙ there)
    ]

pub found_last : (fs : List FamilyRow) (f : FamilyRow) → is_of (fs ++ f ∷ []) f.by ≡ true
found_last [] f = found_first f []
found_last (g ∷ gs) f =
    let G : Bool → Bool = λ b. is_some (cond b (Some g) (family_at f.by (gs ++ f ∷ []))) in
    elim (bool_cases (nat_eq g.by f.by)) [ inl e ↦ ap G e | inr e ↦ ap G e ∙ found_last gs f ]

-- each family is one of them
pub all_found : (fs : List FamilyRow) → list_all (λ (f : FamilyRow). is_of fs f.by) fs ≡ true
all_found [] = refl
all_found (f ∷ fs) =
    and_from (is_of (f ∷ fs) f.by) (list_all (λ (g : FamilyRow). is_of (f ∷ fs) g.by) fs) (found_first f fs)
    (all_weaker (λ (g : FamilyRow). is_of fs g.by) (λ (g : FamilyRow). is_of (f ∷ fs) g.by) (λ g there. found_more f fs g.by there) fs (all_found fs))

-- ---- one step of a loop that leaves families out

module _ (fs fs' : List FamilyRow) (f : FamilyRow) (place : ℕ) (distinct : IsDistinct family_name fs) (there : row_of family_name (family_name f) fs ≡ Some f) (wide : ArePlaces fs) (is : place ≡ f.by)
    (gone : fs' ≡ without family_name (place_bytes place) fs) where
  low : f.by < 2 ^ 64
  low = some_has family_name (λ (g : FamilyRow). g.by < 2 ^ 64) (family_name f) fs f wide there

  gone_by_name : fs' ≡ without family_name (family_name f) fs
  gone_by_name = let W : ℕ → List FamilyRow = λ n. without family_name (place_bytes n) fs in gone ∙ ap W is

  pub step_families : (q : FamilyRow → Bool) → q f ≡ false → filter q fs' ≡ filter q fs
  step_families q out = let Q : List FamilyRow → List FamilyRow = λ l. filter q l in ap Q gone_by_name ∙ left_out q fs f distinct there out

  pub step_rows : {X : Type 0} (family : X → ℕ) (all rows rows' : List X) → rows ≡ filter (λ x. is_of fs (family x)) all → rows' ≡ filter (λ x. not (nat_eq (family x) place)) rows → rows' ≡ filter (λ x. is_of fs' (family x)) all
  step_rows {X} family all rows rows' before after =
      let N : ℕ → List X = λ n. filter (λ x. not (nat_eq (family x) n)) rows in
      let F : List X → List X = λ l. filter (λ x. not (nat_eq (family x) f.by)) l in
      let I : List FamilyRow → List X = λ l. filter (λ x. is_of l (family x)) all in
      after ∙ ap N is ∙ ap F before ∙ rows_without family f.by fs all low wide ∙ ap I (sym gone_by_name)

  pub step_shorter : length fs' < length fs
  step_shorter = let L : List FamilyRow → Type 0 = λ l. length l < length fs in subst L (sym gone_by_name) (shorter family_name (family_name f) fs f there)
