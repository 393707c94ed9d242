-- Two lists of rows that belong together one by one.
use Rattle.std.proofs.Common.{◌≡◌, ℕ, suc, Bool, true, false, not, ◌||◌, nat_lt, cond, List, [], ◌∷◌, ◌++◌, length, filter, filter_map, Option, Some, None, option_and_then, is_some, refl, ◌∙◌, ap, subst}
use Rattle.std.specs.Str.{bytes_eq}
use Rattle.std.specs.List.{cons_option}
use Rattle.sso_base.specs.Words.{Word}
use Rattle.sso_base.specs.Rows.{without, put, row_of, lives, if_lives, live_rows}
use Rattle.held_rows.specs.Held.{is_full}
use Rattle.op_answer.proofs.KeptNames.{some_same}

abbrev pub Both : {X Y : Type 0} → (X → Y → Type 0) → List X → List Y → Type 0
Both Rel [] [] = Unit {0}
Both Rel (x ∷ xs) (y ∷ ys) = Rel x y × Both Rel xs ys
Both Rel xs ys = ⊥

abbrev pub BothIf : {X Y : Type 0} → (X → Y → Type 0) → Option X → Option Y → Type 0
BothIf Rel None None = Unit {0}
BothIf Rel (Some x) (Some y) = Rel x y
BothIf Rel m n = ⊥

-- ---- one row

module _ {X Y : Type 0} (Rel : X → Y → Type 0) where
  pub both_some : (m : Option X) (n : Option Y) → BothIf Rel m n → is_some m ≡ is_some n
  both_some None None both = refl
  both_some (Some x) (Some y) both = refl
  both_some None (Some y) both = absurd both
  both_some (Some x) None both = absurd both

  pub first_of_both : (m : Option X) (n : Option Y) (y : Y) → BothIf Rel m n → n ≡ Some y → (x : X) × (m ≡ Some x) × Rel x y
  first_of_both None None y both is = cc
  first_of_both (Some x) (Some z) y both is =
      let R : Y → Type 0 = λ v. Rel x v in
      (x, refl, subst R (some_same z y is) both)
  first_of_both None (Some z) y both is = absurd both
  first_of_both (Some x) None y both is = absurd both

  pub second_of_both : (m : Option X) (n : Option Y) (x : X) → BothIf Rel m n → m ≡ Some x → (y : Y) × (n ≡ Some y) × Rel x y
  second_of_both None None x both is = cc
  second_of_both (Some z) (Some y) x both is =
      let R : X → Type 0 = λ v. Rel v y in
      (y, refl, subst R (some_same z x is) both)
  second_of_both None (Some y) x both is = absurd both
  second_of_both (Some z) None x both is = absurd both

  -- by the same test
  if_both : (b c : Bool) (x : X) (y : Y) → b ≡ c → Rel x y → BothIf Rel (cond b (Some x) None) (cond c (Some y) None)
  if_both true true x y same rel = rel
  if_both false false x y same rel = tt
  if_both true false x y same rel = cc
  if_both false true x y same rel = cc

  pub both_live : (life : ℕ) (begun : X → ℕ) (since : Y → ℕ) → ((x : X) (y : Y) → Rel x y → begun x ≡ since y) → (at : ℕ) (m : Option X) (n : Option Y) → BothIf Rel m n
      → BothIf Rel (option_and_then (if_lives life begun at) m) (option_and_then (if_lives life since at) n)
  both_live life begun since moments at None None both = tt
  both_live life begun since moments at (Some x) (Some y) both =
      let L : ℕ → Bool = λ n. lives life n at in
      if_both (lives life (begun x) at) (lives life (since y) at) x y (ap L (moments x y both)) both
  both_live life begun since moments at None (Some y) both = absurd both
  both_live life begun since moments at (Some x) None both = absurd both

-- ---- lists

module _ {X Y : Type 0} (Rel : X → Y → Type 0) where
  pub both_long : (xs : List X) (ys : List Y) → Both Rel xs ys → length xs ≡ length ys
  both_long [] [] both = refl
  both_long (x ∷ xs) (y ∷ ys) both = ap suc (both_long xs ys both.1)
  both_long [] (y ∷ ys) both = absurd both
  both_long (x ∷ xs) [] both = absurd both

  pub both_push : (xs : List X) (ys : List Y) (x : X) (y : Y) → Both Rel xs ys → Rel x y → Both Rel (xs ++ x ∷ []) (ys ++ y ∷ [])
  both_push [] [] x y both last = (last, tt)
  both_push (a ∷ xs) (b ∷ ys) x y both last = (both.0, both_push xs ys x y both.1 last)
  both_push [] (b ∷ ys) x y both last = absurd both
  both_push (a ∷ xs) [] x y both last = absurd both

  drop_both : (b c : Bool) (x : X) (y : Y) (xs : List X) (ys : List Y) → b ≡ c → Rel x y → Both Rel xs ys → Both Rel (cond b xs (x ∷ xs)) (cond c ys (y ∷ ys))
  drop_both true true x y xs ys same rel both = both
  drop_both false false x y xs ys same rel both = (rel, both)
  drop_both true false x y xs ys same rel both = cc
  drop_both false true x y xs ys same rel both = cc

  keep_both : (b c : Bool) (x : X) (y : Y) (xs : List X) (ys : List Y) → b ≡ c → Rel x y → Both Rel xs ys → Both Rel (cond b (x ∷ xs) xs) (cond c (y ∷ ys) ys)
  keep_both true true x y xs ys same rel both = (rel, both)
  keep_both false false x y xs ys same rel both = both
  keep_both true false x y xs ys same rel both = cc
  keep_both false true x y xs ys same rel both = cc

  pub both_filtered : (p : X → Bool) (q : Y → Bool) → ((x : X) (y : Y) → Rel x y → p x ≡ q y) → (xs : List X) (ys : List Y) → Both Rel xs ys → Both Rel (filter p xs) (filter q ys)
  both_filtered p q tests [] [] both = tt
  both_filtered p q tests (x ∷ xs) (y ∷ ys) both =
      keep_both (p x) (q y) x y (filter p xs) (filter q ys) (tests x y both.0) both.0 (both_filtered p q tests xs ys both.1)
  both_filtered p q tests [] (y ∷ ys) both = absurd both
  both_filtered p q tests (x ∷ xs) [] both = absurd both

  -- those that live at a moment
  pub both_live_rows : (life : ℕ) (begun : X → ℕ) (since : Y → ℕ) → ((x : X) (y : Y) → Rel x y → begun x ≡ since y) → (at : ℕ) (xs : List X) (ys : List Y) → Both Rel xs ys
      → Both Rel (live_rows life begun at xs) (live_rows life since at ys)
  both_live_rows life begun since moments at xs ys both =
      let L : ℕ → Bool = λ n. lives life n at in
      both_filtered (λ (x : X). lives life (begun x) at) (λ (y : Y). lives life (since y) at) (λ x y rel. ap L (moments x y rel)) xs ys both

  first_both : (b c : Bool) (x : X) (y : Y) (m : Option X) (n : Option Y) → b ≡ c → Rel x y → BothIf Rel m n → BothIf Rel (cond b (Some x) m) (cond c (Some y) n)
  first_both true true x y m n same rel both = rel
  first_both false false x y m n same rel both = both
  first_both true false x y m n same rel both = cc
  first_both false true x y m n same rel both = cc

  cons_both : (m : Option X) (n : Option Y) (xs : List X) (ys : List Y) → BothIf Rel m n → Both Rel xs ys → Both Rel (cons_option m xs) (cons_option n ys)
  cons_both None None xs ys one both = both
  cons_both (Some x) (Some y) xs ys one both = (one, both)
  cons_both None (Some y) xs ys one both = absurd one
  cons_both (Some x) None xs ys one both = absurd one

  module _ (name : X → Word) (called : Y → Word) (names : (x : X) (y : Y) → Rel x y → name x ≡ called y) where
    pub both_without : (w : Word) (xs : List X) (ys : List Y) → Both Rel xs ys → Both Rel (without name w xs) (without called w ys)
    both_without w [] [] both = tt
    both_without w (x ∷ xs) (y ∷ ys) both =
        let T : Word → Bool = λ v. bytes_eq v w in
        drop_both (bytes_eq (name x) w) (bytes_eq (called y) w) x y (without name w xs) (without called w ys) (ap T (names x y both.0)) both.0 (both_without w xs ys both.1)
    both_without w [] (y ∷ ys) both = absurd both
    both_without w (x ∷ xs) [] both = absurd both

    pub both_put : (m : Option X) (n : Option Y) (xs : List X) (ys : List Y) → BothIf Rel m n → Both Rel xs ys → Both Rel (put name m xs) (put called n ys)
    both_put None None xs ys made both = both
    both_put (Some x) (Some y) xs ys made both =
        let W : Word → Type 0 = λ w. Both Rel (without name (name x) xs) (without called w ys) in
        both_push (without name (name x) xs) (without called (called y) ys) x y (subst W (names x y made) (both_without (name x) xs ys both)) made
    both_put None (Some y) xs ys made both = absurd made
    both_put (Some x) None xs ys made both = absurd made

    pub both_found : (w : Word) (xs : List X) (ys : List Y) → Both Rel xs ys → BothIf Rel (row_of name w xs) (row_of called w ys)
    both_found w [] [] both = tt
    both_found w (x ∷ xs) (y ∷ ys) both =
        let T : Word → Bool = λ v. bytes_eq v w in
        first_both (bytes_eq (name x) w) (bytes_eq (called y) w) x y (row_of name w xs) (row_of called w ys) (ap T (names x y both.0)) both.0 (both_found w xs ys both.1)
    both_found w [] (y ∷ ys) both = absurd both
    both_found w (x ∷ xs) [] both = absurd both

    -- of a word, if there is one
    pub both_named : (w : Option Word) (xs : List X) (ys : List Y) → Both Rel xs ys
        → BothIf Rel (option_and_then (λ (v : Word). row_of name v xs) w) (option_and_then (λ (v : Word). row_of called v ys) w)
    both_named None xs ys both = tt
    both_named (Some w) xs ys both = both_found w xs ys both

    -- one is full exactly if the other is
    pub both_full : (most : ℕ) (w : Word) (xs : List X) (ys : List Y) → Both Rel xs ys → is_full most name w xs ≡ is_full most called w ys
    both_full most w xs ys both =
        let N : ℕ → Bool = λ n. not (nat_lt n most) || is_some (row_of name w xs) in
        let S : Bool → Bool = λ b. not (nat_lt (length ys) most) || b in
        ap N (both_long xs ys both) ∙ ap S (both_some Rel (row_of name w xs) (row_of called w ys) (both_found w xs ys both))

-- ---- one rule for each list

module _ {X Y : Type 0} (Rel After : X → Y → Type 0) where
  pub both_kept : (k : X → Option X) (l : Y → Option Y) → ((x : X) (y : Y) → Rel x y → BothIf After (k x) (l y)) → (xs : List X) (ys : List Y) → Both Rel xs ys
      → Both After (filter_map k xs) (filter_map l ys)
  both_kept k l rules [] [] both = tt
  both_kept k l rules (x ∷ xs) (y ∷ ys) both = cons_both After (k x) (l y) (filter_map k xs) (filter_map l ys) (rules x y both.0) (both_kept k l rules xs ys both.1)
  both_kept k l rules [] (y ∷ ys) both = absurd both
  both_kept k l rules (x ∷ xs) [] both = absurd both

  pub both_later : ((x : X) (y : Y) → Rel x y → After x y) → (xs : List X) (ys : List Y) → Both Rel xs ys → Both After xs ys
  both_later more [] [] both = tt
  both_later more (x ∷ xs) (y ∷ ys) both = (more x y both.0, both_later more xs ys both.1)
  both_later more [] (y ∷ ys) both = absurd both
  both_later more (x ∷ xs) [] both = absurd both
