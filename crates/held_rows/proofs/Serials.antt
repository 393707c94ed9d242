-- Serial numbers in order of issue, after a row was put in, taken out, changed, or put at the end.
use Rattle.std.proofs.Common.{◌≡◌, ◌≤◌, ◌<◌, ℕ, zero, suc, ltb, List, [], ◌∷◌, ◌++◌, map, get_or, length, sym, ◌∙◌, ap, subst, arith}
use Rattle.std.specs.List.{AllByRecursion}
use Rattle.std.specs.List.Sorted.{IsNonDecreasingBy, IsPartitionedBy}
use Rattle.std.proofs.lemmas.List.{map-append}
use Rattle.std.proofs.lemmas.List.Sorted.{IsPartitionedBy-ltb}
use Rattle.held_rows.specs.Counts.{count}
use Rattle.held_rows.specs.Index.{IsRising, IsBounded}
use Rattle.held_rows.proofs.Counts.{map_same}
use Rattle.held_rows.proofs.HeldLaws.{all_push}
use Rattle.held_rows.proofs.Middles.{all_taken}

-- ---- numbers

rising_taken : (ms : List ℕ) (n : ℕ) (ns : List ℕ) → IsRising (ms ++ n ∷ ns) → IsRising (ms ++ ns)
rising_taken [] n ns up = up.1
rising_taken (m ∷ ms) n ns up = (all_taken (λ (later : ℕ). m ≤ later) ms n ns up.0, rising_taken ms n ns up.1)

rising_push : (n : ℕ) (ns : List ℕ) → IsRising ns → AllByRecursion (λ m. m ≤ n) ns → IsRising (ns ++ n ∷ [])
rising_push n [] up low = (tt, tt)
rising_push n (m ∷ ns) up low = (all_push (λ (later : ℕ). m ≤ later) n ns up.0 low.0, rising_push n ns up.1 low.1)

pub all_below : (n m : ℕ) (ns : List ℕ) → n ≤ m → AllByRecursion (λ k. k ≤ n) ns → AllByRecursion (λ k. k ≤ m) ns
all_below n m [] le low = tt
all_below n m (k ∷ ns) le low =
    let here : k ≤ n = low.0 in
    (omega arith, all_below n m ns le low.1)

-- ---- the numbers of slots

module _ (serial : ℕ → ℕ) where
  all_reads : (P : ℕ → Type 0) (xs : List ℕ) → AllByRecursion P (map serial xs) → (j d : ℕ) → j < length xs → P (serial (get_or xs j d))
  all_reads P [] all j d lt = absurd (omega arith)
  all_reads P (x ∷ xs) all zero d lt = all.0
  all_reads P (x ∷ xs) all (suc j) d lt = all_reads P xs all.1 j d (omega arith)

  rising : (xs : List ℕ) → IsRising (map serial xs) → IsNonDecreasingBy serial xs
  rising [] up i j d le lt = absurd (omega arith)
  rising (x ∷ xs) up zero zero d le lt = omega arith
  rising (x ∷ xs) up (suc i) zero d le lt = absurd (omega arith)
  rising (x ∷ xs) up zero (suc j) d le lt = all_reads (λ n. serial x ≤ n) xs up.0 j d (omega arith)
  rising (x ∷ xs) up (suc i) (suc j) d le lt = rising xs up.1 i j d (omega arith) (omega arith)

  -- lower numbers stand first
  pub lower_first : (xs : List ℕ) (n : ℕ) → IsRising (map serial xs) → IsPartitionedBy (λ s. ltb (serial s) n) xs
  lower_first xs n up = IsPartitionedBy-ltb serial xs n (rising xs up)

module _ (f g : ℕ → ℕ) where
  -- ---- a slot is put at the end

  pub serials_push : (xs : List ℕ) (slot n : ℕ) → ((t : ℕ) → 0 < count t xs → g t ≡ f t) → g slot ≡ n → map g (xs ++ slot ∷ []) ≡ map f xs ++ n ∷ []
  serials_push xs slot n same here =
      map-append g xs (slot ∷ [])
      ∙ ap (λ (ns : List ℕ). ns ++ g slot ∷ []) (map_same f g xs same)
      ∙ ap (λ (k : ℕ). map f xs ++ k ∷ []) here

  pub pushed_rising : (xs : List ℕ) (slot n : ℕ) → ((t : ℕ) → 0 < count t xs → g t ≡ f t) → g slot ≡ n → IsRising (map f xs) → IsBounded f xs n → IsRising (map g (xs ++ slot ∷ []))
  pushed_rising xs slot n same here up low = subst IsRising (sym (serials_push xs slot n same here)) (rising_push n (map f xs) up low)

  pub pushed_bounded : (xs : List ℕ) (slot n : ℕ) → ((t : ℕ) → 0 < count t xs → g t ≡ f t) → g slot ≡ n → IsBounded f xs n → IsBounded g (xs ++ slot ∷ []) n
  pushed_bounded xs slot n same here low =
      subst (AllByRecursion (λ k. k ≤ n)) (sym (serials_push xs slot n same here)) (all_push (λ (k : ℕ). k ≤ n) n (map f xs) low (omega arith))

  -- ---- a slot is taken out

  serials_taken : (a b : List ℕ) → ((t : ℕ) → 0 < count t (a ++ b) → g t ≡ f t) → map g (a ++ b) ≡ map f a ++ map f b
  serials_taken a b same = map_same f g (a ++ b) same ∙ map-append f a b

  pub taken_rising : (a : List ℕ) (slot : ℕ) (b : List ℕ) → ((t : ℕ) → 0 < count t (a ++ b) → g t ≡ f t) → IsRising (map f (a ++ slot ∷ b)) → IsRising (map g (a ++ b))
  taken_rising a slot b same up =
      subst IsRising (sym (serials_taken a b same)) (rising_taken (map f a) (f slot) (map f b) (subst IsRising (map-append f a (slot ∷ b)) up))

  pub taken_bounded : (a : List ℕ) (slot : ℕ) (b : List ℕ) (n : ℕ) → ((t : ℕ) → 0 < count t (a ++ b) → g t ≡ f t) → IsBounded f (a ++ slot ∷ b) n → IsBounded g (a ++ b) n
  taken_bounded a slot b n same low =
      let Below : List ℕ → Type 0 = AllByRecursion (λ k. k ≤ n) in
      subst Below (sym (serials_taken a b same)) (all_taken (λ (k : ℕ). k ≤ n) (map f a) (f slot) (map f b) (subst Below (map-append f a (slot ∷ b)) low))

  -- ---- no number changes

  pub same_rising : (xs : List ℕ) → ((t : ℕ) → 0 < count t xs → g t ≡ f t) → IsRising (map f xs) → IsRising (map g xs)
  same_rising xs same up = subst IsRising (sym (map_same f g xs same)) up

  pub same_bounded : (xs : List ℕ) (n : ℕ) → ((t : ℕ) → 0 < count t xs → g t ≡ f t) → IsBounded f xs n → IsBounded g xs n
  same_bounded xs n same low = subst (AllByRecursion (λ k. k ≤ n)) (sym (map_same f g xs same)) low
