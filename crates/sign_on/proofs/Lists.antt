-- Lists: what follows for each element from a test that finds nothing, filters that follow one another, and lists whose
-- elements are related.
use Rattle.std.proofs.Common.{◌≡◌, ℕ, suc, Bool, true, false, not, cond, List, [], ◌∷◌, ◌++◌, length, filter, filter_map, Option, Some, None, option_and_then, inl, inr, refl, sym, ap, ◌∙◌, subst}
use Rattle.std.specs.List.{AllByRecursion, cons_option}
use Rattle.std.specs.Str.{bytes_eq}
use Rattle.std.proofs.lemmas.Option.{same_Some}
use Rattle.sso_base.specs.Words.{Word}
use Rattle.sso_base.specs.Rows.{without, put, row_of, lives, if_lives}
use Rattle.sso_base.proofs.RowLaws.{bool_cases, option_cases, bytes_same, bytes_true, row_of-put}
use Rattle.sso_model.specs.Lists.{Has}
use Rattle.sso_model.proofs.ListLaws.{all_append}
use Rattle.sso_places.specs.Each.{Each}

-- ---- filters

-- if one test accepts an element, the others agree on it
pub filter_swap : {A : Type 0} (t k j : A → Bool) (xs : List A) → ((x : A) → t x ≡ true → k x ≡ j x) → filter t (filter k xs) ≡ filter j (filter t xs)
filter_swap t k j [] same = refl
filter_swap {A} t k j (x ∷ xs) same =
    let rest : filter t (filter k xs) ≡ filter j (filter t xs) = filter_swap t k j xs same in
    let C : List A → List A = λ ys. x ∷ ys in
    let K : Bool → List A = λ b. filter t (cond b (x ∷ filter k xs) (filter k xs)) in
    let T : Bool → List A = λ b. cond b (x ∷ filter t (filter k xs)) (filter t (filter k xs)) in
    let R : Bool → List A = λ b. filter j (cond b (x ∷ filter t xs) (filter t xs)) in
    let J : Bool → List A = λ b. cond b (x ∷ filter j (filter t xs)) (filter j (filter t xs)) in
    elim (bool_cases (t x)) [
      | inl in_it ↦
          elim (bool_cases (k x)) [
            | inl kept ↦ ap K kept ∙ ap T in_it ∙ ap C rest ∙ sym (ap J (sym (same x in_it) ∙ kept)) ∙ sym (ap R in_it)
            | inr left ↦ ap K left ∙ rest ∙ sym (ap J (sym (same x in_it) ∙ left)) ∙ sym (ap R in_it)
          ]
      | inr out ↦
          elim (bool_cases (k x)) [
            | inl kept ↦ ap K kept ∙ ap T out ∙ rest ∙ sym (ap R out)
            | inr left ↦ ap K left ∙ rest ∙ sym (ap R out)
          ]
    ]

pub filter_all : {A : Type 0} (xs : List A) → filter (λ (x : A). true) xs ≡ xs
filter_all [] = refl
filter_all {A} (x ∷ xs) = ap (λ (ys : List A). x ∷ ys) (filter_all xs)

-- a filter that leaves what another lets through
pub filter_other : {A : Type 0} (t k : A → Bool) (xs : List A) → ((x : A) → t x ≡ true → k x ≡ true) → filter t (filter k xs) ≡ filter t xs
filter_other t k xs same = filter_swap t k (λ x. true) xs same ∙ filter_all (filter t xs)

-- ---- lists whose elements are related, in order

-- tests that agree on related elements keep as much of both
pub each_filter : {A B : Type 0} (R : A → B → Type 0) (t : A → Bool) (s : B → Bool) (xs : List A) (ys : List B) → ((x : A) (y : B) → R x y → t x ≡ s y) → Each R xs ys → Each R (filter t xs) (filter s ys)
each_filter R t s [] [] same each = tt
each_filter R t s [] (y ∷ ys) same each = absurd each
each_filter R t s (x ∷ xs) [] same each = absurd each
each_filter R t s (x ∷ xs) (y ∷ ys) same each =
    let rest : Each R (filter t xs) (filter s ys) = each_filter R t s xs ys same each.1 in
    let both : Bool → Type 0 = λ b. Each R (cond b (x ∷ filter t xs) (filter t xs)) (cond b (y ∷ filter s ys) (filter s ys)) in
    let right : Bool → Type 0 = λ b. Each R (filter t (x ∷ xs)) (cond b (y ∷ filter s ys) (filter s ys)) in
    let kept : both (t x) = elim (bool_cases (t x)) [ inl e ↦ subst both (sym e) (each.0, rest) | inr e ↦ subst both (sym e) rest ] in
    subst right (same x y each.0) kept

-- a pair more at the end
pub each_push : {A B : Type 0} (R : A → B → Type 0) (xs : List A) (ys : List B) (x : A) (y : B) → Each R xs ys → R x y → Each R (xs ++ x ∷ []) (ys ++ y ∷ [])
each_push R [] [] x y each last = (last, tt)
each_push R [] (b ∷ ys) x y each last = absurd each
each_push R (a ∷ xs) [] x y each last = absurd each
each_push R (a ∷ xs) (b ∷ ys) x y each last = (each.0, each_push R xs ys x y each.1 last)

-- a relation that follows from this one, of the elements of the first list
pub each_weaker : {A B : Type 0} (P : A → Type 0) (R S : A → B → Type 0) (xs : List A) (ys : List B) → ((x : A) (y : B) → P x → R x y → S x y) → AllByRecursion P xs → Each R xs ys → Each S xs ys
each_weaker P R S [] [] weaker all each = tt
each_weaker P R S [] (y ∷ ys) weaker all each = absurd each
each_weaker P R S (x ∷ xs) [] weaker all each = absurd each
each_weaker P R S (x ∷ xs) (y ∷ ys) weaker all each = (weaker x y all.0 each.0, each_weaker P R S xs ys weaker all.1 each.1)

-- an element of the second list has a related one in the first
pub each_has : {A B : Type 0} (R : A → B → Type 0) (xs : List A) (ys : List B) (y : B) → Each R xs ys → Has ys y → (x : A) × Has xs x × R x y
each_has R [] [] y each has = absurd has
each_has R [] (b ∷ ys) y each has = absurd each
each_has R (a ∷ xs) [] y each has = absurd each
each_has {A} {B} R (a ∷ xs) (b ∷ ys) y each (inl same) = (let S : B → Type 0 = λ z. R a z in (a, inl refl, subst S same each.0))
each_has R (a ∷ xs) (b ∷ ys) y each (inr has) = (let rest = each_has R xs ys y each.1 has in (rest.0, inr rest.1, rest.2))

-- so both are of one length
pub each_length : {A B : Type 0} (R : A → B → Type 0) (xs : List A) (ys : List B) → Each R xs ys → length xs ≡ length ys
each_length R [] [] each = refl
each_length R [] (y ∷ ys) each = absurd each
each_length R (x ∷ xs) [] each = absurd each
each_length R (x ∷ xs) (y ∷ ys) each = ap (λ (n : ℕ). suc n) (each_length R xs ys each.1)

-- a test that each element of the first passes keeps them all
pub each_all : {A B : Type 0} (R : A → B → Type 0) (t : A → Bool) (xs : List A) (ys : List B) → ((x : A) (y : B) → R x y → t x ≡ true) → Each R xs ys → Each R (filter t xs) ys
each_all {A} {B} R t xs ys passes each =
    let E : List B → Type 0 = λ zs. Each R (filter t xs) zs in
    subst E (filter_all ys) (each_filter R t (λ (y : B). true) xs ys passes each)

-- ---- what a filter keeps was there

pub filter_had : {A : Type 0} (test : A → Bool) (xs : List A) (x : A) → Has (filter test xs) x → Has xs x × (test x ≡ true)
filter_had test [] x has = absurd has
filter_had {A} test (y ∷ ys) x has =
    let H : Bool → Type 0 = λ b. Has (cond b (y ∷ filter test ys) (filter test ys)) x in
    elim (bool_cases (test y)) [
      | inl kept ↦
          (let there : H true = subst H kept has in
          elim there [
            | inl same ↦ (inl same, ap test (sym same) ∙ kept)
            | inr later ↦ (let rest = filter_had test ys x later in (inr rest.0, rest.1))
          ])
      | inr left ↦ (let there : H false = subst H left has in let rest = filter_had test ys x there in (inr rest.0, rest.1))
    ]

-- two filters, in either order
pub filter_both : {A : Type 0} (t k : A → Bool) (xs : List A) → filter t (filter k xs) ≡ filter k (filter t xs)
filter_both t k xs = filter_swap t k k xs (λ x in_it. refl)

-- rows that are dropped or kept as they are
pub dropped : {R : Type 0} (t : R → Bool) (rows : List R) → filter_map (λ row. cond (t row) None (Some row)) rows ≡ filter (λ row. not (t row)) rows
dropped t [] = refl
dropped {R} t (r ∷ rs) =
    let rest : filter_map (λ row. cond (t row) None (Some row)) rs ≡ filter (λ row. not (t row)) rs = dropped t rs in
    let M : Bool → List R = λ b. cons_option (cond b None (Some r)) (filter_map (λ row. cond (t row) None (Some row)) rs) in
    let F : Bool → List R = λ b. cond (not b) (r ∷ filter (λ row. not (t row)) rs) (filter (λ row. not (t row)) rs) in
    elim (bool_cases (t r)) [
      | inl gone ↦ ap M gone ∙ rest ∙ sym (ap F gone)
      | inr there ↦ ap M there ∙ ap (λ (zs : List R). r ∷ zs) rest ∙ sym (ap F there)
    ]

-- a filter that keeps all
pub filter_keeps : {A : Type 0} (t : A → Bool) (xs : List A) → AllByRecursion (λ x. t x ≡ true) xs → filter t xs ≡ xs
filter_keeps t [] all = refl
filter_keeps {A} t (x ∷ xs) all =
    let F : Bool → List A = λ b. cond b (x ∷ filter t xs) (filter t xs) in
    ap F all.0 ∙ ap (λ (zs : List A). x ∷ zs) (filter_keeps t xs all.1)

-- what a filter keeps passes
pub all_kept : {A : Type 0} (t : A → Bool) (xs : List A) → AllByRecursion (λ x. t x ≡ true) (filter t xs)
all_kept t [] = tt
all_kept {A} t (x ∷ xs) =
    let P : Bool → Type 0 = λ b. AllByRecursion (λ y. t y ≡ true) (cond b (x ∷ filter t xs) (filter t xs)) in
    elim (bool_cases (t x)) [
      | inl kept ↦ subst P (sym kept) (kept, all_kept t xs)
      | inr left ↦ subst P (sym left) (all_kept t xs)
    ]

-- ---- what is true for each element

-- for elements of a list, if it follows for each that is in it
pub all_within : {A : Type 0} (P Q : A → Type 0) (xs : List A) → ((x : A) → Has xs x → P x → Q x) → AllByRecursion P xs → AllByRecursion Q xs
all_within P Q [] follows all = tt
all_within P Q (x ∷ xs) follows all = (follows x (inl refl) all.0, all_within P Q xs (λ y has. follows y (inr has)) all.1)

-- what is true for each element of a list
pub all_of : {A : Type 0} (P : A → Type 0) (xs : List A) → ((x : A) → Has xs x → P x) → AllByRecursion P xs
all_of P [] holds = tt
all_of P (x ∷ xs) holds = (holds x (inl refl), all_of P xs (λ y has. holds y (inr has)))

pub all_back : {A : Type 0} (P : A → Type 0) (xs ys : List A) → AllByRecursion P (xs ++ ys) → AllByRecursion P ys
all_back P [] ys all = all
all_back P (x ∷ xs) ys all = all_back P xs ys all.1

-- ---- rows that a filter keeps or drops

-- what is true for each row that a pair leaves, by what was true for it before
pub all_left : {R : Type 0} (P Q : R → Type 0) (k : R → Option R) (rows : List R) → ((row after : R) → k row ≡ Some after → P row → Q after) → AllByRecursion P rows → AllByRecursion Q (filter_map k rows)
all_left P Q k [] left all = tt
all_left {R} P Q k (r ∷ rs) left all =
    let rest : AllByRecursion Q (filter_map k rs) = all_left P Q k rs left all.1 in
    let D : Option R → Type 0 = λ o. AllByRecursion Q (cons_option o (filter_map k rs)) in
    elim (option_cases (k r)) [
      | inl gone ↦ subst D (sym gone) rest
      | inr there ↦ subst D (sym there.1) (left r there.0 there.1 all.0, rest)
    ]

all_without : {R : Type 0} (P : R → Type 0) (name : R → Word) (w : Word) (rows : List R) → AllByRecursion P rows → AllByRecursion P (without name w rows)
all_without P name w [] all = tt
all_without {R} P name w (r ∷ rs) all =
    let rest : AllByRecursion P (without name w rs) = all_without P name w rs all.1 in
    elim (bytes_eq (name r) w) as (λ b. AllByRecursion P (cond b (without name w rs) (r ∷ without name w rs))) [ true ↦ rest | false ↦ (all.0, rest) ]

all_put : {R : Type 0} (P : R → Type 0) (name : R → Word) (made : Option R) (rows : List R) → ((r : R) → made ≡ Some r → P r) → AllByRecursion P rows → AllByRecursion P (put name made rows)
all_put P name None rows new all = all
all_put P name (Some r) rows new all = all_append P (without name (name r) rows) (r ∷ []) (all_without P name (name r) rows all) (new r refl, tt)

-- the rows after one more pair
pub all_rows : {R : Type 0} (P Q : R → Type 0) (name : R → Word) (made : Option R) (k : R → Option R) (rows : List R)
    → ((row after : R) → k row ≡ Some after → P row → Q after) → ((r : R) → made ≡ Some r → Q r) → AllByRecursion P rows → AllByRecursion Q (put name made (filter_map k rows))
all_rows P Q name made k rows left new all = all_put Q name made (filter_map k rows) new (all_left P Q k rows left all)

-- ---- the row of a name

-- a row that is found is one of the rows, and has the name
pub row_of-has : {R : Type 0} (name : R → Word) (w : Word) (rows : List R) (row : R) → row_of name w rows ≡ Some row → Has rows row × (name row ≡ w)
row_of-has name w [] row e = cc
row_of-has {R} name w (r ∷ rs) row e =
    let F : Bool → Option R = λ b. cond b (Some r) (row_of name w rs) in
    elim (bool_cases (bytes_eq (name r) w)) [
      | inl t ↦
          let same : r ≡ row = same_Some r row (sym (ap F t) ∙ e) in
          (inl same, ap name (sym same) ∙ bytes_same (name r) w t)
      | inr f ↦
          let found : Has rs row × (name row ≡ w) = row_of-has name w rs row (sym (ap F f) ∙ e) in
          (inr found.0, found.1)
    ]

-- the row that was just put is found
pub row_of-put_same : {R : Type 0} (name : R → Word) (w : Word) (r : R) (rows : List R) → name r ≡ w → row_of name w (put name (Some r) rows) ≡ Some r
row_of-put_same {R} name w r rows e =
    let F : Bool → Option R = λ b. cond b (Some r) (row_of name w rows) in
    row_of-put name w (Some r) rows ∙ ap F (bytes_true (name r) w e)

-- if no row has the name, none is found
pub row_of-lacks : {R : Type 0} (name : R → Word) (w : Word) (rows : List R) → AllByRecursion (λ (r : R). name r ≡ w → ⊥) rows → row_of name w rows ≡ None
row_of-lacks name w [] other = refl
row_of-lacks {R} name w (r ∷ rs) other =
    let F : Bool → Option R = λ b. cond b (Some r) (row_of name w rs) in
    elim (bool_cases (bytes_eq (name r) w)) [
      | inl t ↦ absurd (other.0 (bytes_same (name r) w t))
      | inr f ↦ ap F f ∙ row_of-lacks name w rs other.1
    ]

-- a row that lives is there
pub lives_some : {R : Type 0} (n : ℕ) (begun : R → ℕ) (at : ℕ) (found : Option R) (row : R) → option_and_then (if_lives n begun at) found ≡ Some row → found ≡ Some row
lives_some n begun at None row e = cc
lives_some {R} n begun at (Some r) row e =
    let F : Bool → Option R = λ b. cond b (Some r) None in
    elim (bool_cases (lives n (begun r) at)) [
      | inl t ↦ sym (ap F t) ∙ e
      | inr f ↦ (let none : F false ≡ Some row = sym (ap F f) ∙ e in cc)
    ]
