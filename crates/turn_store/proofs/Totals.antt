-- Lists: their totals, what is true for each element, and prefixes.
use Rattle.std.proofs.Common.{◌≡◌, ◌≢◌, ◌⊎◌, ℕ, zero, suc, ◌+◌, ◌≤◌, List, [], ◌∷◌, ◌++◌, length, refl, sym, ap, ◌∙◌, subst, inl, inr, ⊎_elim, arith, append_assoc, append-nil}
use Rattle.std.specs.Prelude.{slice_set, take, drop}
use Rattle.std.specs.List.{AllByRecursion}
use mathlib.Core.Option.{some, some-injective, some-ne-none}
use lib.ListN.{get_elem?}
use Rattle.atomic_table.proofs.Lists.{at_set}
use Rattle.turn_store.specs.declared.view.Called.{Called}
use Rattle.turn_store.specs.Places.{Begins, total, StandsIn}
use Rattle.turn_store.specs.Rule.{total_upto}

module _ {A : Type 0} where
  pub total_append : (f : A → ℕ) (xs ys : List A) → total f (xs ++ ys) ≡ total f xs + total f ys
  total_append f [] ys = omega arith
  total_append f (x ∷ xs) ys = let h = total_append f xs ys in omega arith

  -- the total after one element was changed
  pub total_set : (f : A → ℕ) (xs : List A) (i : ℕ) (a b : A) → get_elem? xs i ≡ some a → total f (slice_set xs i b) + f a ≡ total f xs + f b
  total_set f [] i a b e = absurd (some-ne-none a (sym e))
  total_set f (x ∷ xs) zero a b e = let h : f x ≡ f a = ap f (some-injective x a e) in omega arith
  total_set f (x ∷ xs) (suc i) a b e = let h = total_set f xs i a b e in omega arith

  pub total_one : (f : A → ℕ) (xs : List A) (i : ℕ) (a : A) → get_elem? xs i ≡ some a → f a ≤ total f xs
  total_one f [] i a e = absurd (some-ne-none a (sym e))
  total_one f (x ∷ xs) zero a e = let h : f x ≡ f a = ap f (some-injective x a e) in omega arith
  total_one f (x ∷ xs) (suc i) a e = let h = total_one f xs i a e in omega arith

  pub total_none : (f g : A → ℕ) → ((x : A) → f x ≡ 0 → g x ≡ 0) → (xs : List A) → total f xs ≡ 0 → total g xs ≡ 0
  total_none f g none [] e = refl
  total_none f g none (x ∷ xs) e = let h = none x (omega arith) in let t = total_none f g none xs (omega arith) in omega arith

  pub total_cut : (f : A → ℕ) (xs : List A) → total f (take 1 xs) + total f (drop 1 xs) ≡ total f xs
  total_cut f [] = refl
  total_cut f (x ∷ xs) = omega arith

  pub length_cut : (xs : List A) → length (take 1 xs) + length (drop 1 xs) ≡ length xs
  length_cut [] = refl
  length_cut (x ∷ xs) = omega arith

  pub all_weaker : (P Q : A → Type 0) → ((x : A) → P x → Q x) → (xs : List A) → AllByRecursion P xs → AllByRecursion Q xs
  all_weaker P Q f [] h = tt
  all_weaker P Q f (x ∷ xs) h = (f x h.0, all_weaker P Q f xs h.1)

  pub all_append : (P : A → Type 0) (xs ys : List A) → AllByRecursion P xs → AllByRecursion P ys → AllByRecursion P (xs ++ ys)
  all_append P [] ys h k = k
  all_append P (x ∷ xs) ys h k = (h.0, all_append P xs ys h.1 k)

  pub all_first : (P : A → Type 0) (xs : List A) → AllByRecursion P xs → AllByRecursion P (take 1 xs)
  all_first P [] h = tt
  all_first P (x ∷ xs) h = (h.0, tt)

  pub all_rest : (P : A → Type 0) (xs : List A) → AllByRecursion P xs → AllByRecursion P (drop 1 xs)
  all_rest P [] h = tt
  all_rest P (x ∷ xs) h = h.1

  -- the elements after one was changed
  pub all_after : (P : ℕ → A → Type 0) (xs : List A) (by : ℕ) (w : A) → ((j : ℕ) (u : A) → j ≢ by → get_elem? xs j ≡ some u → P j u) → P by w
      → (j : ℕ) (u : A) → get_elem? (slice_set xs by w) j ≡ some u → P j u
  all_after P xs by w others mine j u e =
      ⊎_elim
      (λ (x : (j ≡ by) × (w ≡ u)). subst (λ (y : ℕ × A). P y.0 y.1) (λ i. (sym x.0 i, x.1 i)) mine)
      (λ (x : (j ≢ by) × (get_elem? xs j ≡ some u)). others j u x.0 x.1)
      (at_set xs by j w u e)

  pub set_at : (l : List A) (i : ℕ) (a b : A) → get_elem? l i ≡ some a → get_elem? (slice_set l i b) i ≡ some b
  set_at [] i a b e = absurd (some-ne-none a (sym e))
  set_at (x ∷ xs) zero a b e = refl
  set_at (x ∷ xs) (suc i) a b e = set_at xs i a b e

  pub at_end : (l : List A) (a b : A) (j : ℕ) → get_elem? (l ++ a ∷ []) j ≡ some b → (get_elem? l j ≡ some b) ⊎ (a ≡ b)
  at_end [] a b zero e = inr (some-injective a b e)
  at_end [] a b (suc j) e = absurd (some-ne-none b (sym e))
  at_end (x ∷ xs) a b zero e = inl e
  at_end (x ∷ xs) a b (suc j) e = at_end xs a b j e

  -- ---- beginnings

  pub begins_on : (a b c : List A) → Begins a b → Begins b c → Begins a c
  begins_on a b c h k = (h.0 ++ k.0, k.1 ∙ ap (λ l. l ++ k.0) h.1 ∙ append_assoc a h.0 k.0)

  pub begins_same : (a : List A) → Begins a a
  begins_same a = ([], sym (append-nil a))

  pub begins_none : (a : List A) → Begins [] a
  begins_none a = (a, refl)

  -- what is in a prefix is in the whole
  pub stands_on : (a b : List A) → Begins a b → (c : Called A) → StandsIn a c → StandsIn b c
  stands_on a b h c s = (s.0, s.1 ++ h.0, h.1 ∙ ap (λ l. l ++ h.0) s.2 ∙ append_assoc s.0 (c.pair ∷ s.1) h.0, s.3)

  pub all_stand_on : (a b : List A) → Begins a b → (calls : List (Called A)) → AllByRecursion (StandsIn a) calls → AllByRecursion (StandsIn b) calls
  all_stand_on a b h [] s = tt
  all_stand_on a b h (c ∷ cs) s = (stands_on a b h c s.0, all_stand_on a b h cs s.1)

pub upto_next : (h : ℕ → ℕ) (n m : ℕ) → m ≡ suc n → total_upto h m ≡ total_upto h n + h m
upto_next h n m e = subst (λ k. total_upto h k ≡ total_upto h n + h k) (sym e) refl
