-- What holds where nothing is noted.
use Rattle.std.proofs.Common.{◌≡◌, ◌≤◌, ◌<◌, ◌+◌, ◌||◌, ℕ, Bool, true, false, cond, List, [], ◌∷◌, ◌++◌, Option, Some, None, refl, arith, true≢false}
use Rattle.std.specs.List.{AllByRecursion, position_from}
use Rattle.std.proofs.lemmas.Bool.Decides.{nat_tests}
use Rattle.configuration_rows.specs.declared.no.RegNo.{RegNo}
use Rattle.configuration_rows.specs.Refusals.{least, note_if, each_from}
use Rattle.client_registry.specs.Rules.{is_again}

some_none : {A B : Type 0} (a : A) → Some a ≡ None → B
some_none a h = absurd (cc)

pub nothing : (es : List RegNo) → least es ≡ None → es ≡ []
nothing [] h = refl
nothing (e ∷ es) h = some_none _ h

cons_nil : {A B : Type 0} (x : A) (xs : List A) → x ∷ xs ≡ [] → B
cons_nil x xs h = absurd (cc)

pub front_nil : (xs ys : List RegNo) → xs ++ ys ≡ [] → xs ≡ []
front_nil [] ys h = refl
front_nil (x ∷ xs) ys h = cons_nil x (xs ++ ys) h

pub back_nil : (xs ys : List RegNo) → xs ++ ys ≡ [] → ys ≡ []
back_nil [] ys h = h
back_nil (x ∷ xs) ys h = cons_nil x (xs ++ ys) h

pub unmet : (b : Bool) (e : RegNo) → note_if b e ≡ [] → b ≡ false
unmet true e h = cons_nil e [] h
unmet false e h = refl

pub either_false : (a b : Bool) → (a || b) ≡ false → (a ≡ false) × (b ≡ false)
either_false true b h = absurd (true≢false h)
either_false false b h = (refl, h)

-- each row passes, by its place
abbrev pub AllFrom : {A : Type 0} → (ℕ → A → Type 0) → ℕ → List A → Type 0
AllFrom P n [] = Unit {0}
AllFrom P n (x ∷ xs) = P n x × AllFrom P (n + 1) xs

pub each_nil : {A : Type 0} (f : ℕ → A → List RegNo) (n : ℕ) (xs : List A) → each_from f n xs ≡ [] → AllFrom (λ i x. f i x ≡ []) n xs
each_nil f n [] h = tt
each_nil f n (x ∷ xs) h = (front_nil (f n x) (each_from f (n + 1) xs) h, each_nil f (n + 1) xs (back_nil (f n x) (each_from f (n + 1) xs) h))

pub all_weaker : {A : Type 0} (P Q : ℕ → A → Type 0) → (n : ℕ) (xs : List A) → ((i : ℕ) (x : A) → n ≤ i → P i x → Q i x) → AllFrom P n xs → AllFrom Q n xs
all_weaker P Q n [] f h = tt
all_weaker P Q n (x ∷ xs) f h = (f n x (omega arith) h.0, all_weaker P Q (n + 1) xs (λ i y le p. f i y (omega (arith, le)) p) h.1)

pub all_rows : {A : Type 0} (P : A → Type 0) (n : ℕ) (xs : List A) → AllFrom (λ i x. P x) n xs → AllByRecursion P xs
all_rows P n [] h = tt
all_rows P n (x ∷ xs) h = (h.0, all_rows P (n + 1) xs h.1)

pub rows_weaker : {A : Type 0} (P Q : A → Type 0) (xs : List A) → ((x : A) → P x → Q x) → AllByRecursion P xs → AllByRecursion Q xs
rows_weaker P Q [] f h = tt
rows_weaker P Q (x ∷ xs) f h = (f x h.0, rows_weaker P Q xs f h.1)

-- ---- what stands once

-- where the first place that passes is not before i, this row doesn't pass, and the first place is one behind it
once_at : (b : Bool) (n i : ℕ) (o : Option ℕ) → n < i → is_again i (cond b (Some n) o) ≡ false → (b ≡ false) × (is_again i o ≡ false)
once_at true n i o less h = absurd (grind (arith, nat_tests, less, h))
once_at false n i o less h = (refl, h)

module _ {A T : Type 0} (tests : A → List T) (hits : T → A → Bool) where
  -- each test of a row is passed first by that row
  abbrev pub Once : List A → ℕ → ℕ → A → Type 0
  Once all n i x = AllByRecursion (λ t. is_again i (position_from (hits t) n all) ≡ false) (tests x)

  -- no later row has a test that an earlier row passes
  abbrev pub Apart : List A → Type 0
  Apart [] = Unit {0}
  Apart (y ∷ ys) = AllByRecursion (λ z. AllByRecursion (λ t. hits t y ≡ false) (tests z)) ys × Apart ys

  here_of : (y : A) (ys : List A) (n i : ℕ) (ts : List T) → n < i → AllByRecursion (λ t. is_again i (position_from (hits t) n (y ∷ ys)) ≡ false) ts → AllByRecursion (λ t. hits t y ≡ false) ts
  here_of y ys n i [] less h = tt
  here_of y ys n i (t ∷ ts) less h = ((once_at (hits t y) n i (position_from (hits t) (n + 1) ys) less h.0).0, here_of y ys n i ts less h.1)

  later_of : (y : A) (ys : List A) (n i : ℕ) (ts : List T) → n < i → AllByRecursion (λ t. is_again i (position_from (hits t) n (y ∷ ys)) ≡ false) ts → AllByRecursion (λ t. is_again i (position_from (hits t) (n + 1) ys) ≡ false) ts
  later_of y ys n i [] less h = tt
  later_of y ys n i (t ∷ ts) less h = ((once_at (hits t y) n i (position_from (hits t) (n + 1) ys) less h.0).1, later_of y ys n i ts less h.1)

  pub apart : (n : ℕ) (xs : List A) → AllFrom (Once xs n) n xs → Apart xs
  apart n [] h = tt
  apart n (y ∷ ys) h = (
    all_rows (λ z. AllByRecursion (λ t. hits t y ≡ false) (tests z)) (n + 1) ys
        (all_weaker (Once (y ∷ ys) n) (λ i z. AllByRecursion (λ t. hits t y ≡ false) (tests z)) (n + 1) ys (λ i z le p. here_of y ys n i (tests z) (omega (arith, le)) p) h.1),
    apart (n + 1) ys (all_weaker (Once (y ∷ ys) n) (Once ys (n + 1)) (n + 1) ys (λ i z le p. later_of y ys n i (tests z) (omega (arith, le)) p) h.1),
  )
