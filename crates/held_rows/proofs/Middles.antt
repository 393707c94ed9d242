-- Rows around one of them: that row is found, taken out, changed where it stands.
use Rattle.std.proofs.Common.{◌≡◌, Bool, true, cond, List, [], ◌∷◌, ◌++◌, map, Option, Some, None, inl, inr, refl, sym, ◌∙◌, ap}
use Rattle.std.specs.Str.{bytes_eq}
use Rattle.std.specs.List.{AllByRecursion}
use Rattle.sso_base.specs.Words.{Word}
use Rattle.sso_base.specs.Rows.{without, row_of}
use Rattle.sso_base.specs.Stands.{IsDistinct}
use Rattle.sso_base.proofs.RowLaws.{bool_cases, option_cases, bytes_same, bytes_true, row_of-append, or_row}
use Rattle.held_rows.proofs.Kept.{without_none}

module _ {R : Type 0} (name : R → Word) where
  -- ---- one name

  none_middle : (w : Word) (xs : List R) (e : R) (ys : List R) → row_of name w (xs ++ e ∷ ys) ≡ None → row_of name w (xs ++ ys) ≡ None
  none_middle w [] e ys h =
      let G : Bool → Option R = λ b. cond b (Some e) (row_of name w ys) in
      elim (bool_cases (bytes_eq (name e) w)) [
        | inl t ↦ (let k : G true ≡ None = sym (ap G t) ∙ h in cc)
        | inr t ↦ sym (ap G t) ∙ h
      ]
  none_middle w (x ∷ xs) e ys h =
      let G : Bool → Option R = λ b. cond b (Some x) (row_of name w (xs ++ e ∷ ys)) in
      let H : Bool → Option R = λ b. cond b (Some x) (row_of name w (xs ++ ys)) in
      elim (bool_cases (bytes_eq (name x) w)) [
        | inl t ↦ (let k : G true ≡ None = sym (ap G t) ∙ h in cc)
        | inr t ↦ ap H t ∙ none_middle w xs e ys (sym (ap G t) ∙ h)
      ]

  -- the names before it are others
  none_before : (xs : List R) (e : R) (ys : List R) → IsDistinct name (xs ++ e ∷ ys) → row_of name (name e) xs ≡ None
  none_before [] e ys d = refl
  none_before (x ∷ xs) e ys d =
      let G : Bool → Option R = λ b. cond b (Some x) (row_of name (name e) xs) in
      let F : Bool → Option R = λ b. cond b (Some e) (row_of name (name x) ys) in
      let O : Option R → Option R = λ o. or_row (row_of name (name x) xs) o in
      elim (bool_cases (bytes_eq (name x) (name e))) [
        | inl t ↦
            (let clash : or_row (row_of name (name x) xs) (Some e) ≡ None =
            sym (ap O (ap F (bytes_true (name e) (name x) (sym (bytes_same (name x) (name e) t))))) ∙ sym (row_of-append name (name x) xs (e ∷ ys)) ∙ d.0 in
            elim (option_cases (row_of name (name x) xs)) [
              | inl k ↦ (let bad : Some e ≡ None = sym (ap (λ (o : Option R). or_row o (Some e)) k) ∙ clash in cc)
              | inr k ↦ (let bad : Some k.0 ≡ None = sym (ap (λ (o : Option R). or_row o (Some e)) k.1) ∙ clash in cc)
            ])
        | inr t ↦ ap G t ∙ none_before xs e ys d.1
      ]

  none_after_it : (xs : List R) (e : R) (ys : List R) → IsDistinct name (xs ++ e ∷ ys) → row_of name (name e) ys ≡ None
  none_after_it [] e ys d = d.0
  none_after_it (x ∷ xs) e ys d = none_after_it xs e ys d.1

  pub row_of-middle : (xs : List R) (e : R) (ys : List R) → IsDistinct name (xs ++ e ∷ ys) → row_of name (name e) (xs ++ e ∷ ys) ≡ Some e
  row_of-middle xs e ys d =
      let G : Bool → Option R = λ b. cond b (Some e) (row_of name (name e) ys) in
      row_of-append name (name e) xs (e ∷ ys)
      ∙ ap (λ (o : Option R). or_row o (row_of name (name e) (e ∷ ys))) (none_before xs e ys d)
      ∙ ap G (bytes_true (name e) (name e) refl)

  without-append : (w : Word) (xs ys : List R) → without name w (xs ++ ys) ≡ without name w xs ++ without name w ys
  without-append w [] ys = refl
  without-append w (x ∷ xs) ys =
      let W : Bool → List R = λ b. cond b (without name w (xs ++ ys)) (x ∷ without name w (xs ++ ys)) in
      let V : Bool → List R = λ b. cond b (without name w xs) (x ∷ without name w xs) ++ without name w ys in
      elim (bool_cases (bytes_eq (name x) w)) [
        | inl t ↦ ap W t ∙ without-append w xs ys ∙ sym (ap V t)
        | inr t ↦ ap W t ∙ ap (λ (rs : List R). x ∷ rs) (without-append w xs ys) ∙ sym (ap V t)
      ]

  pub without-middle : (xs : List R) (e : R) (ys : List R) → IsDistinct name (xs ++ e ∷ ys) → without name (name e) (xs ++ e ∷ ys) ≡ xs ++ ys
  without-middle xs e ys d =
      let W : Bool → List R = λ b. cond b (without name (name e) ys) (e ∷ without name (name e) ys) in
      let A : List R → List R = λ rs. rs ++ without name (name e) (e ∷ ys) in
      let B : List R → List R = λ rs. xs ++ rs in
      without-append (name e) xs (e ∷ ys)
      ∙ ap A (without_none name (name e) xs (none_before xs e ys d))
      ∙ ap B (ap W (bytes_true (name e) (name e) refl) ∙ without_none name (name e) ys (none_after_it xs e ys d))

  changed_none : (change : R → R) (w : Word) (xs : List R) → row_of name w xs ≡ None → map (λ x. cond (bytes_eq (name x) w) (change x) x) xs ≡ xs
  changed_none change w [] h = refl
  changed_none change w (x ∷ xs) h =
      let G : Bool → Option R = λ b. cond b (Some x) (row_of name w xs) in
      let W : Bool → List R = λ b. cond b (change x) x ∷ map (λ (y : R). cond (bytes_eq (name y) w) (change y) y) xs in
      elim (bool_cases (bytes_eq (name x) w)) [
        | inl t ↦ (let k : G true ≡ None = sym (ap G t) ∙ h in cc)
        | inr t ↦ ap W t ∙ ap (λ (rs : List R). x ∷ rs) (changed_none change w xs (sym (ap G t) ∙ h))
      ]

  pub changed-middle : (change : R → R) (xs : List R) (e : R) (ys : List R) → row_of name (name e) xs ≡ None → row_of name (name e) ys ≡ None
      → map (λ x. cond (bytes_eq (name x) (name e)) (change x) x) (xs ++ e ∷ ys) ≡ xs ++ change e ∷ ys
  changed-middle change [] e ys before behind =
      let W : Bool → List R = λ b. cond b (change e) e ∷ map (λ (y : R). cond (bytes_eq (name y) (name e)) (change y) y) ys in
      ap W (bytes_true (name e) (name e) refl) ∙ ap (λ (rs : List R). change e ∷ rs) (changed_none change (name e) ys behind)
  changed-middle change (x ∷ xs) e ys before behind =
      let G : Bool → Option R = λ b. cond b (Some x) (row_of name (name e) xs) in
      let W : Bool → List R = λ b. cond b (change x) x ∷ map (λ (y : R). cond (bytes_eq (name y) (name e)) (change y) y) (xs ++ e ∷ ys) in
      elim (bool_cases (bytes_eq (name x) (name e))) [
        | inl t ↦ (let k : G true ≡ None = sym (ap G t) ∙ before in cc)
        | inr t ↦ ap W t ∙ ap (λ (rs : List R). x ∷ rs) (changed-middle change xs e ys (sym (ap G t) ∙ before) behind)
      ]

  pub written-middle : (change : R → R) (xs : List R) (e : R) (ys : List R) → IsDistinct name (xs ++ e ∷ ys)
      → map (λ x. cond (bytes_eq (name x) (name e)) (change x) x) (xs ++ e ∷ ys) ≡ xs ++ change e ∷ ys
  written-middle change xs e ys d = changed-middle change xs e ys (none_before xs e ys d) (none_after_it xs e ys d)

-- ---- what holds of all

pub all_taken : {R : Type 0} (P : R → Type 0) (xs : List R) (e : R) (ys : List R) → AllByRecursion P (xs ++ e ∷ ys) → AllByRecursion P (xs ++ ys)
all_taken P [] e ys all = all.1
all_taken P (x ∷ xs) e ys all = (all.0, all_taken P xs e ys all.1)

pub all_put : {R : Type 0} (P : R → Type 0) (xs : List R) (e : R) (ys : List R) → P e → AllByRecursion P (xs ++ ys) → AllByRecursion P (xs ++ e ∷ ys)
all_put P [] e ys here all = (here, all)
all_put P (x ∷ xs) e ys here all = (all.0, all_put P xs e ys here all.1)

pub all_at : {R : Type 0} (P : R → Type 0) (xs : List R) (e : R) (ys : List R) → AllByRecursion P (xs ++ e ∷ ys) → P e
all_at P [] e ys all = all.0
all_at P (x ∷ xs) e ys all = all_at P xs e ys all.1
