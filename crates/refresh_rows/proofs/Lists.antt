-- Rows that are left out, mapped and counted.
use Rattle.std.proofs.Common.{◌≡◌, ◌≤◌, ◌+◌, ℕ, suc, Bool, true, false, ◌&&◌, cond, List, [], ◌∷◌, ◌++◌, length, map, filter, Option, Some, None, option_map, inl, inr, refl, ap, sym, ◌∙◌, subst, arith}
use Rattle.std.specs.List.{list_all}
use Rattle.std.specs.Str.{bytes_eq}
use Rattle.std.proofs.lemmas.Bool.{and_parts, and_from}
use Rattle.sso_base.specs.Words.{Word}
use Rattle.sso_base.specs.Rows.{put, row_of, without}
use Rattle.sso_base.specs.Stands.{IsDistinct}
use Rattle.sso_base.proofs.RowLaws.{bool_cases, bytes_same}
use Rattle.held_rows.proofs.Hits.{both_filtered}
use Rattle.held_rows.proofs.Kept.{without_none}
use Rattle.core_stack.proofs.Same.{some_same}
use Rattle.refresh_answer.proofs.Families.{some_none}
use Rattle.refresh_rows.specs.Booked.{Fewer}

-- ---- filters

pub filter_same : {X : Type 0} (k l : X → Bool) → ((x : X) → k x ≡ l x) → (xs : List X) → filter k xs ≡ filter l xs
filter_same k l same [] = refl
filter_same {X} k l same (x ∷ xs) =
    let K : Bool → List X = λ b. cond b (x ∷ filter k xs) (filter k xs) in
    let L : List X → List X = λ r. cond (l x) (x ∷ r) r in
    ap K (same x) ∙ ap L (filter_same k l same xs)

-- all rows pass
pub filter_all : {X : Type 0} (k : X → Bool) (xs : List X) → list_all k xs ≡ true → filter k xs ≡ xs
filter_all k [] all = refl
filter_all {X} k (x ∷ xs) all =
    let both = and_parts (k x) (list_all k xs) all in
    let K : Bool → List X = λ b. cond b (x ∷ filter k xs) (filter k xs) in
    let push : List X → List X = λ l. x ∷ l in
    ap K both.0 ∙ ap push (filter_all k xs both.1)

-- those that pass do
pub all_passed : {X : Type 0} (k : X → Bool) (xs : List X) → list_all k (filter k xs) ≡ true
all_passed k [] = refl
all_passed {X} k (x ∷ xs) =
    let K : Bool → Bool = λ b. list_all k (cond b (x ∷ filter k xs) (filter k xs)) in
    elim (bool_cases (k x)) [
      | inl e ↦ ap K e ∙ and_from (k x) (list_all k (filter k xs)) e (all_passed k xs)
      | inr e ↦ ap K e ∙ all_passed k xs
    ]

pub all_weaker : {X : Type 0} (k l : X → Bool) → ((x : X) → k x ≡ true → l x ≡ true) → (xs : List X) → list_all k xs ≡ true → list_all l xs ≡ true
all_weaker k l weaker [] all = refl
all_weaker k l weaker (x ∷ xs) all =
    let both = and_parts (k x) (list_all k xs) all in
    and_from (l x) (list_all l xs) (weaker x both.0) (all_weaker k l weaker xs both.1)

pub all_pushed : {X : Type 0} (k : X → Bool) (xs : List X) (x : X) → list_all k xs ≡ true → k x ≡ true → list_all k (xs ++ x ∷ []) ≡ true
all_pushed k [] x all last = and_from (k x) true last refl
all_pushed k (y ∷ ys) x all last =
    let both = and_parts (k y) (list_all k ys) all in
    and_from (k y) (list_all k (ys ++ x ∷ [])) both.0 (all_pushed k ys x both.1 last)

-- ---- counts

abbrev one_if : Bool → ℕ
one_if true = 1
one_if false = 0

one_longer : (n : ℕ) → suc n ≡ 1 + n
one_longer n = omega arith

none_longer : (n : ℕ) → n ≡ 0 + n
none_longer n = omega arith

counted_by : {X : Type 0} (b : Bool) (x : X) (l : List X) → length (cond b (x ∷ l) l) ≡ one_if b + length l
counted_by true x l = one_longer (length l)
counted_by false x l = none_longer (length l)

pushed_sum : (all whole one before last : ℕ) → all ≡ one + before → whole ≡ before + last → one + whole ≡ all + last
pushed_sum all whole one before last is more = omega (arith, is, more)

plus_none : (n : ℕ) → n + 0 ≡ 0 + n
plus_none n = omega arith

counted_more : {X : Type 0} (k : X → Bool) (xs : List X) (x : X) → length (filter k (xs ++ x ∷ [])) ≡ length (filter k xs) + one_if (k x)
counted_more k [] x = counted_by (k x) x [] ∙ plus_none (one_if (k x))
counted_more {X} k (y ∷ ys) x =
    counted_by (k y) y (filter k (ys ++ x ∷ []))
    ∙ pushed_sum (length (filter k (y ∷ ys))) (length (filter k (ys ++ x ∷ []))) (one_if (k y)) (length (filter k ys)) (one_if (k x)) (counted_by (k y) y (filter k ys)) (counted_more k ys x)

-- no more rows pass where some were left out
low_by : (a b x y : ℕ) → a ≡ x → b ≡ y → x ≤ y → a ≤ b
low_by a b x y is same low = omega (arith, is, same, low)

more_low : (a b n : ℕ) → a ≤ b → a ≤ n + b
more_low a b n low = omega (arith, low)

both_low : (a b n : ℕ) → a ≤ b → n + a ≤ n + b
both_low a b n low = omega (arith, low)

pub fewer_pass : {X : Type 0} (q k : X → Bool) (xs : List X) → length (filter k (filter q xs)) ≤ length (filter k xs)
fewer_pass q k [] = omega arith
fewer_pass {X} q k (x ∷ xs) =
    let again : length (filter k (filter q xs)) ≤ length (filter k xs) = fewer_pass q k xs in
    let L : Bool → Type 0 = λ b. length (filter k (cond b (x ∷ filter q xs) (filter q xs))) ≤ length (filter k (x ∷ xs)) in
    elim (bool_cases (q x)) [
      | inl e ↦ subst L (sym e) (low_by _ _ (one_if (k x) + length (filter k (filter q xs))) (one_if (k x) + length (filter k xs)) (counted_by (k x) x (filter k (filter q xs))) (counted_by (k x) x (filter k xs)) (both_low _ _ (one_if (k x)) again))
      | inr e ↦ subst L (sym e) (low_by _ _ (length (filter k (filter q xs))) (one_if (k x) + length (filter k xs)) refl (counted_by (k x) x (filter k xs)) (more_low _ _ (one_if (k x)) again))
    ]

low_twice : (a b c : ℕ) → a ≤ b → b ≤ c → a ≤ c
low_twice a b c low high = omega (arith, low, high)

sum_low : (a b c d m n : ℕ) → a ≡ c + m → b ≡ d + n → c ≤ d → m ≡ n → a ≤ b
sum_low a b c d m n one two low same = omega (arith, one, two, low, same)

sum_more : (a b d n : ℕ) → b ≡ d + n → a ≤ d → a ≤ b
sum_more a b d n is low = omega (arith, is, low)

pub always : {Z : Type 0} (zs : List Z) → list_all (λ (z : Z). true) zs ≡ true
always [] = refl
always (z ∷ zs) = always zs

module _ {X Y : Type 0} (f : X → ℕ) (g : Y → ℕ) where
  -- fewer than all
  pub fewer_in_all : (xs : List X) (ys : List Y) → Fewer f g xs ys → length xs ≤ length ys
  fewer_in_all xs ys fewer =
      let L : List X → Type 0 = λ l. length l ≤ length ys in
      let M : List Y → Type 0 = λ l. length (filter (λ (x : X). true) xs) ≤ length l in
      subst L (filter_all (λ (x : X). true) xs (always xs)) (subst M (filter_all (λ (y : Y). true) ys (always ys)) (fewer (λ n. true)))

  pub fewer_less : (q : X → Bool) (xs : List X) (ys : List Y) → Fewer f g xs ys → Fewer f g (filter q xs) ys
  fewer_less q xs ys fewer = λ k. low_twice _ _ _ (fewer_pass q (λ x. k (f x)) xs) (fewer k)

  -- of some families alone
  pub fewer_of : (m : ℕ → Bool) (xs : List X) (ys : List Y) → Fewer f g xs ys → Fewer f g (filter (λ x. m (f x)) xs) (filter (λ y. m (g y)) ys)
  fewer_of m xs ys fewer = λ k.
      low_by _ _ _ _ (ap length (both_filtered (λ x. m (f x)) (λ x. k (f x)) xs)) (ap length (both_filtered (λ y. m (g y)) (λ y. k (g y)) ys)) (fewer (λ n. m n && k n))

  pub fewer_more : (xs : List X) (ys : List Y) (x : X) (y : Y) → f x ≡ g y → Fewer f g xs ys → Fewer f g (xs ++ x ∷ []) (ys ++ y ∷ [])
  fewer_more xs ys x y same fewer = λ k.
      let K : ℕ → ℕ = λ n. one_if (k n) in
      sum_low _ _ _ _ (one_if (k (f x))) (one_if (k (g y))) (counted_more (λ z. k (f z)) xs x) (counted_more (λ z. k (g z)) ys y) (fewer k) (ap K same)

  pub fewer_right : (xs : List X) (ys : List Y) (y : Y) → Fewer f g xs ys → Fewer f g xs (ys ++ y ∷ [])
  fewer_right xs ys y fewer = λ k. sum_more _ _ _ (one_if (k (g y))) (counted_more (λ z. k (g z)) ys y) (fewer k)

-- ---- one row put in place of another

taken_sum : (all whole one mine : ℕ) → all ≡ one + whole → mine ≡ one → all ≤ whole + mine
taken_sum all whole one mine is same = omega (arith, is, same)

left_sum : (all whole one less mine rest : ℕ) → all ≡ one + whole → rest ≡ one + less → whole ≤ less + mine → all ≤ rest + mine
left_sum all whole one less mine rest is left low = omega (arith, is, left, low)

-- those with other names, and the row itself, are all
taken_low : {Y : Type 0} (name : Y → Word) (k : Y → Bool) (w : Word) (y : Y) (ys : List Y) → IsDistinct name ys → row_of name w ys ≡ Some y → length (filter k ys) ≤ length (filter k (without name w ys)) + one_if (k y)
taken_low name k w y [] distinct there = absurd (some_none y (sym there))
taken_low {Y} name k w y (z ∷ zs) distinct there =
    let W : Bool → List Y = λ b. cond b (without name w zs) (z ∷ without name w zs) in
    let F : Bool → Option Y = λ b. cond b (Some z) (row_of name w zs) in
    let V : Word → Option Y = λ v. row_of name v zs in
    let L : List Y → Type 0 = λ l. length (filter k (z ∷ zs)) ≤ length (filter k l) + one_if (k y) in
    let K : Y → ℕ = λ x. one_if (k x) in
    elim (bool_cases (bytes_eq (name z) w)) [
      | inl e ↦
          (let same : z ≡ y = some_same z y (sym (ap F e) ∙ there) in
          let none : row_of name w zs ≡ None = sym (ap V (bytes_same (name z) w e)) ∙ distinct.0 in
          subst L (sym (ap W e ∙ without_none name w zs none)) (taken_sum (length (filter k (z ∷ zs))) (length (filter k zs)) (one_if (k z)) (one_if (k y)) (counted_by (k z) z (filter k zs)) (ap K (sym same))))
      | inr e ↦
          subst L (sym (ap W e))
          (left_sum (length (filter k (z ∷ zs))) (length (filter k zs)) (one_if (k z)) (length (filter k (without name w zs))) (one_if (k y)) (length (filter k (z ∷ without name w zs)))
          (counted_by (k z) z (filter k zs)) (counted_by (k z) z (filter k (without name w zs))) (taken_low name k w y zs distinct.1 (sym (ap F e) ∙ there)))
    ]

put_sum : (a b c m n all : ℕ) → a ≤ b → b ≤ c + m → m ≡ n → all ≡ c + n → a ≤ all
put_sum a b c m n all low left same is = omega (arith, low, left, same, is)

pub fewer_put : {X Y : Type 0} (f : X → ℕ) (g : Y → ℕ) (name : Y → Word) (xs : List X) (ys : List Y) (y z : Y) → IsDistinct name ys → row_of name (name z) ys ≡ Some y → g y ≡ g z → Fewer f g xs ys → Fewer f g xs (put name (Some z) ys)
fewer_put f g name xs ys y z distinct there same fewer = λ k.
    let K : ℕ → ℕ = λ n. one_if (k n) in
    put_sum _ _ _ (one_if (k (g y))) (one_if (k (g z))) _ (fewer k) (taken_low name (λ v. k (g v)) (name z) y ys distinct there) (ap K same) (counted_more (λ v. k (g v)) (without name (name z) ys) z)

-- ---- rows that are mapped

module _ {X Y : Type 0} (t : X → Y) where
  pub map_filter : (k : Y → Bool) (xs : List X) → map t (filter (λ x. k (t x)) xs) ≡ filter k (map t xs)
  map_filter k [] = refl
  map_filter k (x ∷ xs) =
      let again : map t (filter (λ y. k (t y)) xs) ≡ filter k (map t xs) = map_filter k xs in
      let F : Bool → List Y = λ b. map t (cond b (x ∷ filter (λ y. k (t y)) xs) (filter (λ y. k (t y)) xs)) in
      let G : Bool → List Y = λ b. cond b (t x ∷ filter k (map t xs)) (filter k (map t xs)) in
      let push : List Y → List Y = λ l. t x ∷ l in
      elim (bool_cases (k (t x))) [
        | inl e ↦ ap F e ∙ ap push again ∙ sym (ap G e)
        | inr e ↦ ap F e ∙ again ∙ sym (ap G e)
      ]

  pub map_push : (xs : List X) (x : X) → map t (xs ++ x ∷ []) ≡ map t xs ++ t x ∷ []
  map_push [] x = refl
  map_push (y ∷ ys) x = let push : List Y → List Y = λ l. t y ∷ l in ap push (map_push ys x)

  pub map_long : (xs : List X) → length (map t xs) ≡ length xs
  map_long [] = refl
  map_long (x ∷ xs) = ap suc (map_long xs)

  module _ (of_x : X → Word) (of_y : Y → Word) (names : (x : X) → of_y (t x) ≡ of_x x) where
    pub map_found : (w : Word) (xs : List X) → row_of of_y w (map t xs) ≡ option_map t (row_of of_x w xs)
    map_found w [] = refl
    map_found w (x ∷ xs) =
        let N : Word → Bool = λ v. bytes_eq v w in
        let B : Bool → Option Y = λ b. cond b (Some (t x)) (row_of of_y w (map t xs)) in
        let C : Bool → Option Y = λ b. option_map t (cond b (Some x) (row_of of_x w xs)) in
        elim (bool_cases (bytes_eq (of_x x) w)) [
          | inl e ↦ ap B (ap N (names x) ∙ e) ∙ sym (ap C e)
          | inr e ↦ ap B (ap N (names x) ∙ e) ∙ map_found w xs ∙ sym (ap C e)
        ]

    map_without : (w : Word) (xs : List X) → map t (without of_x w xs) ≡ without of_y w (map t xs)
    map_without w [] = refl
    map_without w (x ∷ xs) =
        let N : Word → Bool = λ v. bytes_eq v w in
        let B : Bool → List Y = λ b. map t (cond b (without of_x w xs) (x ∷ without of_x w xs)) in
        let C : Bool → List Y = λ b. cond b (without of_y w (map t xs)) (t x ∷ without of_y w (map t xs)) in
        let push : List Y → List Y = λ l. t x ∷ l in
        elim (bool_cases (bytes_eq (of_x x) w)) [
          | inl e ↦ ap B e ∙ map_without w xs ∙ sym (ap C (ap N (names x) ∙ e))
          | inr e ↦ ap B e ∙ ap push (map_without w xs) ∙ sym (ap C (ap N (names x) ∙ e))
        ]

    pub map_put : (x : X) (xs : List X) → map t (put of_x (Some x) xs) ≡ put of_y (Some (t x)) (map t xs)
    map_put x xs =
        let P : List Y → List Y = λ l. l ++ t x ∷ [] in
        let W : Word → List Y = λ v. without of_y v (map t xs) ++ t x ∷ [] in
        map_push (without of_x (of_x x) xs) x ∙ ap P (map_without (of_x x) xs) ∙ ap W (sym (names x))
