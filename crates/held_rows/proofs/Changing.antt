-- The row of a name changed where it stands.
use Rattle.std.proofs.Common.{◌≡◌, ◌≤◌, ℕ, suc, Bool, true, cond, List, [], ◌∷◌, map, length, Option, Some, None, option_map, inl, inr, refl, sym, ◌∙◌, ap, subst, arith}
use Rattle.std.specs.Str.{bytes_eq}
use Rattle.std.specs.List.{AllByRecursion}
use Rattle.sso_base.specs.Words.{Word}
use Rattle.sso_base.specs.Rows.{row_of}
use Rattle.sso_base.specs.Stands.{IsDistinct}
use Rattle.sso_base.proofs.RowLaws.{bool_cases}
use Rattle.held_rows.specs.Held.{IsHeld, IsInOrder, changed}

-- ---- rows mapped to rows of the same name

pub row_of-map : {R : Type 0} (name : R → Word) (change : R → R) (w : Word) (rows : List R) → ((r : R) → name (change r) ≡ name r) → row_of name w (map change rows) ≡ option_map change (row_of name w rows)
row_of-map name change w [] same = refl
row_of-map {R} name change w (r ∷ rs) same =
    let again : row_of name w (map change rs) ≡ option_map change (row_of name w rs) = row_of-map name change w rs same in
    let T : Word → Option R = λ v. cond (bytes_eq v w) (Some (change r)) (row_of name w (map change rs)) in
    let B : Bool → Option R = λ b. cond b (Some (change r)) (row_of name w (map change rs)) in
    let G : Bool → Option R = λ b. option_map change (cond b (Some r) (row_of name w rs)) in
    elim (bool_cases (bytes_eq (name r) w)) [
      | inl e ↦ ap T (same r) ∙ ap B e ∙ sym (ap G e)
      | inr e ↦ ap T (same r) ∙ ap B e ∙ again ∙ sym (ap G e)
    ]

distinct_map : {R : Type 0} (name : R → Word) (change : R → R) (rows : List R) → ((r : R) → name (change r) ≡ name r) → IsDistinct name rows → IsDistinct name (map change rows)
distinct_map name change [] same d = tt
distinct_map {R} name change (r ∷ rs) same d =
    let V : Word → Option R = λ v. row_of name v (map change rs) in
    let M : Option R → Option R = λ o. option_map change o in
    (ap V (same r) ∙ row_of-map name change (name r) rs same ∙ ap M d.0, distinct_map name change rs same d.1)

pub all_map : {R : Type 0} (P Q : R → Type 0) (change : R → R) (rows : List R) → ((r : R) → P r → Q (change r)) → AllByRecursion P rows → AllByRecursion Q (map change rows)
all_map P Q change [] keeps all = tt
all_map P Q change (r ∷ rs) keeps all = (keeps r all.0, all_map P Q change rs keeps all.1)

ordered_map : {R : Type 0} (begun : R → ℕ) (change : R → R) (rows : List R) → ((r : R) → begun (change r) ≡ begun r) → IsInOrder begun rows → IsInOrder begun (map change rows)
ordered_map begun change [] same o = tt
ordered_map {R} begun change (r ∷ rs) same o =
    let earlier : (later : R) → begun r ≤ begun later → begun (change r) ≤ begun (change later) = λ later low.
    let a : begun (change r) ≡ begun r = same r in
    let b : begun (change later) ≡ begun later = same later in
    omega arith in
    (all_map (λ (later : R). begun r ≤ begun later) (λ (later : R). begun (change r) ≤ begun later) change rs earlier o.0, ordered_map begun change rs same o.1)

length_map : {R : Type 0} (change : R → R) (rows : List R) → length (map change rows) ≡ length rows
length_map change [] = refl
length_map change (r ∷ rs) = ap suc (length_map change rs)

-- ---- the row of a name

abbrev pub change_named : {R : Type 0} → (R → Word) → Word → (R → R) → R → R
change_named name w change row = cond (bytes_eq (name row) w) (change row) row

-- what holds of a row and of the changed row
pub changed_has : {R : Type 0} (P : R → R → Type 0) (name : R → Word) (w : Word) (change : R → R) (row : R) → P (change row) row → P row row → P (change_named name w change row) row
changed_has {R} P name w change row made kept =
    let C : Bool → Type 0 = λ b. P (cond b (change row) row) row in
    elim (bool_cases (bytes_eq (name row) w)) [ inl e ↦ subst C (sym e) made | inr e ↦ subst C (sym e) kept ]

pub length-changed : {R : Type 0} (name : R → Word) (w : Word) (change : R → R) (rows : List R) → length (changed name w change rows) ≡ length rows
length-changed name w change rows = length_map (change_named name w change) rows

pub held_changed : {R : Type 0} (name : R → Word) (begun : R → ℕ) (IsSound : R → Type 0) (w : Word) (change : R → R) (rows : List R)
    → ((r : R) → name (change r) ≡ name r) → ((r : R) → begun (change r) ≡ begun r) → ((r : R) → IsSound r → IsSound (change r))
    → IsHeld name begun IsSound rows → IsHeld name begun IsSound (changed name w change rows)
held_changed {R} name begun IsSound w change rows names moments ranges h =
    let one : R → R = change_named name w change in
    let long : length (changed name w change rows) ≡ length rows = length-changed name w change rows in
    let few : length rows ≤ 65536 = h.few in
    record {
      distinct = distinct_map name one rows (λ (r : R). changed_has (λ (x y : R). name x ≡ name y) name w change r (names r) refl) h.distinct;
      ordered = ordered_map begun one rows (λ (r : R). changed_has (λ (x y : R). begun x ≡ begun y) name w change r (moments r) refl) h.ordered;
      few = omega arith;
      sound = all_map IsSound IsSound one rows (λ r here. changed_has (λ (x y : R). IsSound x) name w change r (ranges r here) here) h.sound;
    }

-- no row of the name, no change
pub changed_none : {R : Type 0} (name : R → Word) (w : Word) (change : R → R) (rows : List R) → row_of name w rows ≡ None → changed name w change rows ≡ rows
changed_none name w change [] h = refl
changed_none {R} name w change (r ∷ rs) h =
    let G : Bool → Option R = λ b. cond b (Some r) (row_of name w rs) in
    let C : Bool → List R = λ b. cond b (change r) r ∷ changed name w change rs in
    let push : List R → List R = λ xs. r ∷ xs in
    elim (bool_cases (bytes_eq (name r) w)) [
      | inl e ↦ (let k : G true ≡ None = sym (ap G e) ∙ h in cc)
      | inr e ↦ ap C e ∙ ap push (changed_none name w change rs (sym (ap G e) ∙ h))
    ]
