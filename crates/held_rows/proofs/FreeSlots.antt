-- Which slots are free, after a value was put in, written over or taken out.
use Rattle.std.proofs.Common.{◌≡◌, ◌≢◌, ◌<◌, ◌+◌, ℕ, zero, suc, List, [], ◌∷◌, ◌++◌, get_or, set, length, Option, Some, None, is_some, IsSome, cond, count_by, inl, inr, refl, sym, ◌∙◌, ap, arith}
use Rattle.std.proofs.lemmas.Bool.{cases_lt}
use Rattle.std.proofs.lemmas.List.{length-set, length_push, get_or-set_same, get_or-set_other, get_or_past, get_or_push, get_or_default}
use Rattle.std.proofs.lemmas.List.Sums.{sum_by-set, sum_by_push}
use Rattle.held_rows.specs.Counts.{count}
use Rattle.held_rows.specs.SlotList.{IsFree, IsSound, Changes}
use Rattle.held_rows.proofs.Counts.{same_or_other, count-append}

module _ {T : Type 0} where
  -- a slot that has a value
  pub within : (slots : List (Option T)) (s : ℕ) (v : T) → get_or slots s None ≡ Some v → s < length slots
  within slots s v h = elim (cases_lt s (length slots)) [
    | inl lt ↦ lt
    | inr ge ↦ (let past = get_or_past slots s None ge in cc)
  ]

  -- what was read there
  pub read_value : (slots : List (Option T)) (s : ℕ) (x : Option T) (v : T) → IsSome (get_or slots s None) → x ≡ get_or slots s x → x ≡ Some v → get_or slots s None ≡ Some v
  read_value slots s x v some read is =
      let low : s < length slots = grind (arith, get_or_past) in
      get_or_default slots s None x low ∙ sym read ∙ is

  -- ---- a slot is written

  pub changes_set : (slots : List (Option T)) (s : ℕ) (v : Option T) → s < length slots → Changes (λ t. get_or slots t None) (λ t. get_or (set slots s v) t None) s v
  changes_set slots s v h = record {
    changed = get_or-set_same slots s v None h;
    others = λ t away. get_or-set_other slots s t v None away;
  }

  -- how many values there are then
  pub count_set : (slots : List (Option T)) (s : ℕ) (old new : Option T) → s < length slots → get_or slots s None ≡ old
      → count_by is_some (set slots s new) + cond (is_some old) 1 0 ≡ count_by is_some slots + cond (is_some new) 1 0
  count_set slots s old new h was =
      let F : Option T → ℕ = λ o. cond (is_some o) 1 0 in
      let sums = sum_by-set F slots s new None h in
      let here : F (get_or slots s None) ≡ F old = ap F was in
      omega (arith, sums, here)

  -- ---- a slot is added

  push_other : (slots : List (Option T)) (v : Option T) (t : ℕ) → t ≢ length slots → get_or (slots ++ v ∷ []) t None ≡ get_or slots t None
  push_other [] v zero away = absurd (away refl)
  push_other [] v (suc t) away = refl
  push_other (x ∷ slots) v zero away = refl
  push_other (x ∷ slots) v (suc t) away = push_other slots v t (λ e. away (ap suc e))

  pub changes_push : (slots : List (Option T)) (v : Option T) → Changes (λ t. get_or slots t None) (λ t. get_or (slots ++ v ∷ []) t None) (length slots) v
  changes_push slots v = record {
    changed = get_or_push slots v None (length slots) refl;
    others = λ t away. push_other slots v t away;
  }

  -- ---- the free slots

  -- a free slot has no value
  not_free : (slots : List (Option T)) (frees : List ℕ) (room s : ℕ) (v : T) → IsSound slots frees room → get_or slots s None ≡ Some v → (t : ℕ) → 0 < count t frees → t ≢ s
  not_free slots frees room s v sound was t h same =
      let free = sound.listed t h in
      let G : ℕ → Option T = λ n. get_or slots n None in
      let clash : None ≡ Some v = sym free.vacant ∙ ap G same ∙ was in
      cc

  -- the last free slot
  pub last_free : (slots : List (Option T)) (frees : List ℕ) (room s : ℕ) → IsSound slots (frees ++ s ∷ []) room → IsFree slots (frees ++ s ∷ []) s
  last_free slots frees room s sound =
      let parts = count-append s frees (s ∷ []) in
      sound.listed s (elim (same_or_other s s) [
        | inl same ↦ (let on = same.1 in omega (arith, parts, on))
        | inr other ↦ absurd (other.0 refl)
      ])

  -- a value was put into the last free slot
  pub filled : (slots : List (Option T)) (frees : List ℕ) (room s : ℕ) (v : T) → IsSound slots (frees ++ s ∷ []) room → IsSound (set slots s (Some v)) frees room
  filled slots frees room s v sound =
      let last = last_free slots frees room s sound in
      let as_long = length-set slots s (Some v) in
      let counted = sound.counted in
      let fits = sound.fits in
      let counts = count_set slots s None (Some v) last.in_range last.vacant in
      let long = length_push frees s in
      record {
        listed = λ t h.
            (let parts = count-append t frees (s ∷ []) in
            let free = sound.listed t (omega (arith, parts, h)) in
            let once = free.once in
            let in_range = free.in_range in
            elim (same_or_other t s) [
              | inl same ↦ (let on = same.1 in absurd (omega (arith, parts, on, once, h)))
              | inr other ↦
                  (let off = other.1 in record {
                    once = omega (arith, parts, off, once);
                    in_range = omega (arith, in_range, as_long);
                    vacant = get_or-set_other slots s t (Some v) None other.0 ∙ free.vacant;
                  })
            ]);
        counted = omega (arith, counted, counts, long, as_long);
        fits = omega (arith, fits, as_long);
      }

  -- a slot was added where none was free
  pub added : (slots : List (Option T)) (frees : List ℕ) (room : ℕ) (v : T) → length frees ≡ 0 → length slots < room → IsSound slots frees room → IsSound (slots ++ Some v ∷ []) frees room
  added slots [] room v none more sound =
      let F : Option T → ℕ = λ o. cond (is_some o) 1 0 in
      let counted = sound.counted in
      let sums = sum_by_push F slots (Some v) in
      let long = length_push slots (Some v) in
      record {
        listed = λ t h. absurd (omega (arith, h));
        counted = omega (arith, counted, sums, long);
        fits = omega (arith, more, long);
      }
  added slots (s ∷ frees) room v none more sound = absurd (omega (arith, none))

  -- a value was taken out
  pub vacated : (slots : List (Option T)) (frees : List ℕ) (room s : ℕ) (v : T) → get_or slots s None ≡ Some v → IsSound slots frees room → IsSound (set slots s None) (frees ++ s ∷ []) room
  vacated slots frees room s v was sound =
      let as_long = length-set slots s None in
      let low = within slots s v was in
      let counted = sound.counted in
      let fits = sound.fits in
      let counts = count_set slots s (Some v) None low was in
      let long = length_push frees s in
      record {
        listed = λ t h.
            (let parts = count-append t frees (s ∷ []) in
            elim (same_or_other t s) [
              | inl same ↦
                  (let on = same.1 in
                  let here : t ≡ s = same.0 in
                  let G : ℕ → Option T = λ n. get_or (set slots s None) n None in
                  let none : count t frees ≡ 0 =
                  elim (cases_lt 0 (count t frees)) [
                    | inl some ↦ absurd (not_free slots frees room s v sound was t some here)
                    | inr zero' ↦ omega (arith, zero')
                  ] in
                  record {
                    once = omega (arith, parts, on, none);
                    in_range = omega (arith, low, as_long, here);
                    vacant = ap G here ∙ get_or-set_same slots s None None low;
                  })
              | inr other ↦
                  (let off = other.1 in
                  let free = sound.listed t (omega (arith, parts, off, h)) in
                  let once = free.once in
                  let in_range = free.in_range in
                  record {
                    once = omega (arith, parts, off, once);
                    in_range = omega (arith, in_range, as_long);
                    vacant = get_or-set_other slots s t None None other.0 ∙ free.vacant;
                  })
            ]);
        counted = omega (arith, counted, counts, long, as_long);
        fits = omega (arith, fits, as_long);
      }

  -- a value was written over
  pub rewritten : (slots : List (Option T)) (frees : List ℕ) (room s : ℕ) (v w : T) → get_or slots s None ≡ Some v → IsSound slots frees room → IsSound (set slots s (Some w)) frees room
  rewritten slots frees room s v w was sound =
      let as_long = length-set slots s (Some w) in
      let low = within slots s v was in
      let counted = sound.counted in
      let fits = sound.fits in
      let counts = count_set slots s (Some v) (Some w) low was in
      record {
        listed = λ t h.
            (let free = sound.listed t h in
            let in_range = free.in_range in
            record {
              once = free.once;
              in_range = omega (arith, in_range, as_long);
              vacant = get_or-set_other slots s t (Some w) None (not_free slots frees room s v sound was t h) ∙ free.vacant;
            });
        counted = omega (arith, counted, counts, as_long);
        fits = omega (arith, fits, as_long);
      }
