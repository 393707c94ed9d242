-- How often a slot is among others, and what lists of slots give of the rows there.
use Rattle.std.proofs.Common.{◌≡◌, ◌≢◌, ◌<◌, ◌+◌, ℕ, zero, suc, eqb, Bool, cond, List, [], ◌∷◌, ◌++◌, map, take, drop, get_or, length, Option, Some, None, is_some, inl, inr, ◌⊎◌, refl, sym, ◌∙◌, ap, subst, arith}
use Rattle.std.specs.List.{filter_map, cons_option}
use Rattle.std.proofs.Math.Seq.{drop-cons}
use Rattle.std.proofs.lemmas.Bool.Decides.{nat_tests}
use Rattle.std.proofs.lemmas.List.{take-append-drop}
use Rattle.std.proofs.lemmas.List.Elements.{filter_map-append}
use Rattle.sso_base.proofs.RowLaws.{bool_cases, option_cases}
use Rattle.held_rows.specs.Counts.{count, Lists}

-- 1 where two slots are one, and else 0
abbrev pub one : ℕ → ℕ → ℕ
one s x = cond (eqb s x) 1 0

pub same_or_other : (s x : ℕ) → ((s ≡ x) × (one s x ≡ 1)) ⊎ ((s ≢ x) × (one s x ≡ 0))
same_or_other s x =
    let F : Bool → ℕ = λ b. cond b 1 0 in
    elim (bool_cases (eqb s x)) [
      | inl e ↦ inl (grind (arith, nat_tests), ap F e)
      | inr e ↦ inr (λ h. grind (arith, nat_tests), ap F e)
    ]

pub count-append : (s : ℕ) (a b : List ℕ) → count s (a ++ b) ≡ count s a + count s b
count-append s [] b = omega arith
count-append s (x ∷ a) b = let again = count-append s a b in omega (arith, again)

pub count-middle : (s : ℕ) (a : List ℕ) (x : ℕ) (b : List ℕ) → count s (a ++ x ∷ b) ≡ one s x + count s (a ++ b)
count-middle s a x b = omega (arith, count-append s a (x ∷ b), count-append s a b)

-- a slot that is among others, where it stands
pub split_count : (s : ℕ) (xs : List ℕ) → 0 < count s xs → (a : List ℕ) × (b : List ℕ) × (xs ≡ a ++ s ∷ b)
split_count s [] h = absurd (omega arith)
split_count s (x ∷ xs) h = elim (same_or_other s x) [
  | inl same ↦ ([], xs, ap (λ (y : ℕ). y ∷ xs) (sym same.0))
  | inr other ↦
      (let there : 0 < count s xs = (let off = other.1 in omega (arith, off)) in
      let parts = split_count s xs there in
      (x ∷ parts.0, parts.1, ap (λ (ys : List ℕ). x ∷ ys) parts.2))
]

-- and at which place
pub place_count : (s : ℕ) (xs : List ℕ) → 0 < count s xs → (k : ℕ) × (k < length xs) × ((d : ℕ) → get_or xs k d ≡ s)
place_count s [] h = absurd (omega arith)
place_count s (x ∷ xs) h = elim (same_or_other s x) [
  | inl same ↦ (zero, omega arith, λ d. sym same.0)
  | inr other ↦
      (let there : 0 < count s xs = (let off = other.1 in omega (arith, off)) in
      let found = place_count s xs there in
      let low : found.0 < length xs = found.1 in
      (suc found.0, omega arith, found.2))
]

-- a list around one of its places
pub split_place : (xs : List ℕ) (i d : ℕ) → i < length xs → take i xs ++ get_or xs i d ∷ drop (suc i) xs ≡ xs
split_place xs i d h =
    let F : List ℕ → List ℕ = λ ys. take i xs ++ ys in
    sym (ap F (drop-cons xs i d h)) ∙ take-append-drop i xs

pub count_place : (xs : List ℕ) (i d : ℕ) → i < length xs → 0 < count (get_or xs i d) xs
count_place xs i d h =
    let s : ℕ = get_or xs i d in
    let C : List ℕ → ℕ = λ ys. count s ys in
    let all : count s (take i xs ++ s ∷ drop (suc i) xs) ≡ count s xs = ap C (split_place xs i d h) in
    let mid = count-middle s (take i xs) s (drop (suc i) xs) in
    elim (same_or_other s s) [
      | inl same ↦ (let on = same.1 in omega (arith, all, mid, on))
      | inr other ↦ absurd (other.0 refl)
    ]

pub length-middle : {X : Type 0} (a : List X) (x : X) (b : List X) → length (a ++ x ∷ b) ≡ suc (length (a ++ b))
length-middle [] x b = refl
length-middle (y ∷ a) x b = ap suc (length-middle a x b)

pub map_same : {L : Type 0} (f g : ℕ → L) (xs : List ℕ) → ((s : ℕ) → 0 < count s xs → g s ≡ f s) → map g xs ≡ map f xs
map_same f g [] same = refl
map_same {L} f g (x ∷ xs) same =
    let here : g x ≡ f x = same x (elim (same_or_other x x) [ inl k ↦ (let on = k.1 in omega (arith, on)) | inr k ↦ absurd (k.0 refl) ]) in
    let rest : map g xs ≡ map f xs = map_same f g xs (λ s h. same s (omega arith)) in
    ap (λ (l : L). l ∷ map g xs) here ∙ ap (λ (ls : List L). f x ∷ ls) rest

module _ {E : Type 0} where
  -- ---- the rows at slots

  -- where the slots have what they had, so have the rows
  pub rows_same : (f g : ℕ → Option E) (xs : List ℕ) → ((s : ℕ) → 0 < count s xs → g s ≡ f s) → filter_map g xs ≡ filter_map f xs
  rows_same f g [] same = refl
  rows_same f g (x ∷ xs) same =
      let here : g x ≡ f x = same x (elim (same_or_other x x) [ inl k ↦ (let on = k.1 in omega (arith, on)) | inr k ↦ absurd (k.0 refl) ]) in
      let rest : filter_map g xs ≡ filter_map f xs = rows_same f g xs (λ s h. same s (omega arith)) in
      ap (λ (o : Option E). cons_option o (filter_map g xs)) here ∙ ap (λ (rows : List E). cons_option (f x) rows) rest

  pub rows-middle : (f : ℕ → Option E) (a : List ℕ) (s : ℕ) (b : List ℕ) (e : E) → f s ≡ Some e → filter_map f (a ++ s ∷ b) ≡ filter_map f a ++ e ∷ filter_map f b
  rows-middle f a s b e h =
      filter_map-append f a (s ∷ b) ∙ ap (λ (o : Option E). filter_map f a ++ cons_option o (filter_map f b)) h

  pub length-rows : (f : ℕ → Option E) (xs : List ℕ) → ((s : ℕ) → 0 < count s xs → (e : E) × (f s ≡ Some e)) → length (filter_map f xs) ≡ length xs
  length-rows f [] some = refl
  length-rows f (x ∷ xs) some =
      let here = some x (elim (same_or_other x x) [ inl k ↦ (let on = k.1 in omega (arith, on)) | inr k ↦ absurd (k.0 refl) ]) in
      ap (λ (o : Option E). length (cons_option o (filter_map f xs))) here.1 ∙ ap suc (length-rows f xs (λ s h. some s (omega arith)))

  -- ---- lists of the slots that have a row

  -- a listed slot has a row
  pub row_listed : (f : ℕ → Option E) (xs : List ℕ) → Lists f xs → (s : ℕ) → 0 < count s xs → (e : E) × (f s ≡ Some e)
  row_listed f xs lists s h =
      let F : Option E → ℕ = λ o. cond (is_some o) 1 0 in
      elim (option_cases (f s)) [
        | inl none ↦ (let no : count s xs ≡ 0 = lists s ∙ ap F none in absurd (omega arith))
        | inr some ↦ some
      ]

  -- a slot with a row is listed once
  pub listed_row : (f : ℕ → Option E) (xs : List ℕ) → Lists f xs → (s : ℕ) (e : E) → f s ≡ Some e → count s xs ≡ 1
  listed_row f xs lists s e h =
      let F : Option E → ℕ = λ o. cond (is_some o) 1 0 in
      lists s ∙ ap F h

  pub listed_none : (f : ℕ → Option E) (xs : List ℕ) → Lists f xs → (s : ℕ) → f s ≡ None → count s xs ≡ 0
  listed_none f xs lists s h =
      let F : Option E → ℕ = λ o. cond (is_some o) 1 0 in
      lists s ∙ ap F h

  -- a row was taken out
  pub lists_taken : (f g : ℕ → Option E) (a : List ℕ) (s : ℕ) (b : List ℕ) (e : E) → Lists f (a ++ s ∷ b) → f s ≡ Some e → g s ≡ None → ((t : ℕ) → t ≢ s → g t ≡ f t) → Lists g (a ++ b)
  lists_taken f g a s b e lists was gone others t =
      let F : Option E → ℕ = λ o. cond (is_some o) 1 0 in
      let mid = count-middle t a s b in
      elim (same_or_other t s) [
        | inl same ↦
            (let on = same.1 in
            let once : count t (a ++ s ∷ b) ≡ 1 = lists t ∙ ap F (ap f same.0 ∙ was) in
            let left : count t (a ++ b) ≡ 0 = omega (arith, mid, on, once) in
            left ∙ sym (ap F (ap g same.0 ∙ gone)))
        | inr other ↦
            (let off = other.1 in
            let left : count t (a ++ b) ≡ count t (a ++ s ∷ b) = omega (arith, mid, off) in
            left ∙ lists t ∙ sym (ap F (others t other.0)))
      ]

  -- a row was put in
  pub lists_put : (f g : ℕ → Option E) (a : List ℕ) (s : ℕ) (b : List ℕ) (e : E) → Lists f (a ++ b) → f s ≡ None → g s ≡ Some e → ((t : ℕ) → t ≢ s → g t ≡ f t) → Lists g (a ++ s ∷ b)
  lists_put f g a s b e lists was now others t =
      let F : Option E → ℕ = λ o. cond (is_some o) 1 0 in
      let mid = count-middle t a s b in
      elim (same_or_other t s) [
        | inl same ↦
            (let on = same.1 in
            let none : count t (a ++ b) ≡ 0 = lists t ∙ ap F (ap f same.0 ∙ was) in
            let once : count t (a ++ s ∷ b) ≡ 1 = omega (arith, mid, on, none) in
            once ∙ sym (ap F (ap g same.0 ∙ now)))
        | inr other ↦
            (let off = other.1 in
            let left : count t (a ++ s ∷ b) ≡ count t (a ++ b) = omega (arith, mid, off) in
            left ∙ lists t ∙ sym (ap F (others t other.0)))
      ]

  -- a row was changed
  pub lists_changed : (f g : ℕ → Option E) (xs : List ℕ) (s : ℕ) (e e' : E) → Lists f xs → f s ≡ Some e → g s ≡ Some e' → ((t : ℕ) → t ≢ s → g t ≡ f t) → Lists g xs
  lists_changed f g xs s e e' lists was now others t =
      let F : Option E → ℕ = λ o. cond (is_some o) 1 0 in
      elim (same_or_other t s) [
        | inl same ↦ lists t ∙ ap F (ap f same.0 ∙ was) ∙ sym (ap F (ap g same.0 ∙ now))
        | inr other ↦ lists t ∙ sym (ap F (others t other.0))
      ]

  -- a listed slot is not among the others
  pub others_differ : (f : ℕ → Option E) (a : List ℕ) (s : ℕ) (b : List ℕ) (e : E) → Lists f (a ++ s ∷ b) → f s ≡ Some e → (t : ℕ) → 0 < count t (a ++ b) → t ≢ s
  others_differ f a s b e lists was t h same =
      let once : count s (a ++ s ∷ b) ≡ 1 = listed_row f (a ++ s ∷ b) lists s e was in
      let mid = count-middle s a s b in
      let C : ℕ → Type 0 = λ x. 0 < count x (a ++ b) in
      let there : 0 < count s (a ++ b) = subst C same h in
      elim (same_or_other s s) [
        | inl k ↦ (let on = k.1 in omega (arith, once, mid, on))
        | inr k ↦ k.0 refl
      ]
