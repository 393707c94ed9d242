-- A text split at its first dot.
use Rattle.std.proofs.Common.{◌≡◌, ℕ, zero, suc, ◌+◌, ◌-◌, ◌<◌, ◌≤◌, List, [], ◌∷◌, ◌++◌, length, take, drop, get_or, Option, Some, None, option_map, Bool, true, false, nat_eq, refl, sym, ap, ◌∙◌, arith, cond, option_and_then, is_some, append_assoc, length-append}
use Rattle.std.proofs.lemmas.List.{take_rest, take_at}
use Rattle.std.proofs.lemmas.Grind.{common_steps}
use Rattle.jws_compact.specs.Jws.{dots, at_first_dot, no_dot, at_second_dot, three_parts}

not_dot : (x : ℕ) → (x ≡ 46 → ⊥) → nat_eq x 46 ≡ false
not_dot x h = grind (arith, common_steps)

pub split_none : (xs : List ℕ) → ((k : ℕ) → k < length xs → get_or xs k 0 ≡ 46 → ⊥) → at_first_dot xs ≡ None
split_none [] h = refl
split_none (x ∷ xs) h = rw (not_dot x (h 0 (omega arith)), split_none xs (λ k b. h (suc k) (omega arith)))

split_here : (xs : List ℕ) (i : ℕ) → i < length xs → ((k : ℕ) → k < i → get_or xs k 0 ≡ 46 → ⊥) → get_or xs i 0 ≡ 46 → at_first_dot xs ≡ Some (take i xs, drop (suc i) xs)
split_here [] i b h e = absurd (omega arith)
split_here (x ∷ xs) zero b h e = rw e
split_here (x ∷ xs) (suc i) b h e = rw (not_dot x (h 0 (omega arith)), split_here xs i (omega arith) (λ k c. h (suc k) (omega arith)) e)

pub split_at : (xs : List ℕ) (i : ℕ) → i < length xs → ((k : ℕ) → k < i → get_or xs k 0 ≡ 46 → ⊥) → get_or xs i 0 ≡ 46 → Some (take i xs, take (length xs - (i + 1)) (drop (i + 1) xs)) ≡ at_first_dot xs
split_at xs i b h e =
    let n : i + 1 ≡ suc i = omega arith in
    rw (take_rest xs (i + 1), n) (sym (split_here xs i b h e))

abbrev Pair : Type 0
Pair = List ℕ × List ℕ

abbrev pub Triple : Type 0
Triple = List ℕ × List ℕ × List ℕ

same_pair : (p q : Pair) → Some p ≡ Some q → p ≡ q
same_pair p q e = cc

pub same_triple : (p q : Triple) → Some p ≡ Some q → p ≡ q
same_triple p q e = cc

-- what was split is joined again
abbrev Joins : List ℕ → Pair → Type 0
Joins t q = t ≡ q.0 ++ 46 ∷ q.1

joined : (x : ℕ) (xs : List ℕ) (q : Pair) (o : Option Pair) → ((p : Pair) → o ≡ Some p → Joins xs p) → option_map {U = Pair} (λ p. (x ∷ p.0, p.1)) o ≡ Some q → Joins (x ∷ xs) q
joined x xs q None h e = absurd (cc)
joined x xs q (Some p) h e = let same : (x ∷ p.0, p.1) ≡ q = same_pair (x ∷ p.0, p.1) q e in ap (λ l. x ∷ l) (h p refl) ∙ ap (λ (r : Pair). r.0 ++ 46 ∷ r.1) same

at_test : (x : ℕ) (xs : List ℕ) (q : Pair) (t : Bool) → nat_eq x 46 ≡ t → ((p : Pair) → at_first_dot xs ≡ Some p → Joins xs p)
    → cond t (Some ([], xs)) (option_map {U = Pair} (λ p. (x ∷ p.0, p.1)) (at_first_dot xs)) ≡ Some q → Joins (x ∷ xs) q
at_test x xs q true is h e =
    let dot : x ≡ 46 = grind (arith, common_steps) in
    let same : ([], xs) ≡ q = same_pair ([], xs) q e in
    ap (λ y. y ∷ xs) dot ∙ ap (λ (r : Pair). r.0 ++ 46 ∷ r.1) same
at_test x xs q false is h e = joined x xs q (at_first_dot xs) h e

pub split_joins : (t : List ℕ) (q : Pair) → at_first_dot t ≡ Some q → Joins t q
split_joins [] q e = absurd (cc)
split_joins (x ∷ xs) q e = at_test x xs q (nat_eq x 46) refl (λ p f. split_joins xs p f) e

-- the parts of a text with two dots
abbrev JoinsThree : List ℕ → Triple → Type 0
JoinsThree t q = t ≡ q.0 ++ 46 ∷ (q.1 ++ 46 ∷ q.2)

at_last : (v q : Triple) (t : Bool) → cond t None (Some v) ≡ Some q → v ≡ q
at_last v q true e = absurd (cc)
at_last v q false e = same_triple v q e

at_second : (a rest : List ℕ) (q : Triple) (o : Option Pair) → ((p : Pair) → o ≡ Some p → Joins rest p) → option_and_then (λ p. no_dot a p.0 p.1) o ≡ Some q → a ++ 46 ∷ rest ≡ q.0 ++ 46 ∷ (q.1 ++ 46 ∷ q.2)
at_second a rest q None h e = absurd (cc)
at_second a rest q (Some p) h e = ap (λ l. a ++ 46 ∷ l) (h p refl) ∙ ap (λ (r : Triple). r.0 ++ 46 ∷ (r.1 ++ 46 ∷ r.2)) (at_last (a, p.0, p.1) q (is_some (at_first_dot p.1)) e)

at_first : (t : List ℕ) (q : Triple) (o : Option Pair) → ((p : Pair) → o ≡ Some p → Joins t p) → option_and_then (λ p. at_second_dot p.0 p.1) o ≡ Some q → JoinsThree t q
at_first t q None h e = absurd (cc)
at_first t q (Some p) h e = h p refl ∙ at_second p.0 p.1 q (at_first_dot p.1) (λ r f. split_joins p.1 r f) e

pub three_parts_join : (t : List ℕ) (q : Triple) → three_parts t ≡ Some q → JoinsThree t q
unfolding three_parts
three_parts_join t q e = at_first t q (at_first_dot t) (λ p f. split_joins t p f) e

-- the front of such a text
pub front : (t a b c : List ℕ) → three_parts t ≡ Some (a, b, c) → (length a + 1 + length b ≤ length t) × (take (length a + 1 + length b) t ≡ a ++ 46 ∷ b)
front t a b c e =
    let j : t ≡ (a ++ 46 ∷ b) ++ 46 ∷ c = three_parts_join t (a, b, c) e ∙ sym (append_assoc a (46 ∷ b) (46 ∷ c)) in
    let n : length (a ++ 46 ∷ b) ≡ length a + 1 + length b = omega (arith, length-append a (46 ∷ b)) in
    let all : length t ≡ length ((a ++ 46 ∷ b) ++ 46 ∷ c) = ap length j in
    (omega (arith, length-append (a ++ 46 ∷ b) (46 ∷ c)), ap (take (length a + 1 + length b)) j ∙ take_at (a ++ 46 ∷ b) (46 ∷ c) _ n)

-- ---- the number of dots

-- the number of dots of a text that is split so
abbrev dots_by : Option Pair → ℕ
dots_by None = 0
dots_by (Some q) = 1 + dots q.1

more_by : (x : ℕ) (o : Option Pair) → dots_by (option_map {U = Pair} (λ p. (x ∷ p.0, p.1)) o) ≡ dots_by o
more_by x None = refl
more_by x (Some p) = refl

dots_test : (x : ℕ) (xs : List ℕ) (t : Bool) → nat_eq x 46 ≡ t → dots xs ≡ dots_by (at_first_dot xs) → dots (x ∷ xs) ≡ dots_by (at_first_dot (x ∷ xs))
dots_test x xs true is h = rw is
dots_test x xs false is h = rw is (h ∙ sym (more_by x (at_first_dot xs)))

dots_split : (xs : List ℕ) → dots xs ≡ dots_by (at_first_dot xs)
dots_split [] = refl
dots_split (x ∷ xs) = dots_test x xs (nat_eq x 46) refl (dots_split xs)

more_than_two : (n : ℕ) → nat_eq (1 + (1 + (1 + n))) 2 ≡ false
more_than_two n = grind (arith, common_steps)

at_third : (a b c : List ℕ) (o : Option Pair) → at_first_dot c ≡ o → is_some (no_dot a b c) ≡ nat_eq (1 + (1 + dots_by o)) 2
at_third a b c None e = rw e
at_third a b c (Some r) e = rw e (sym (more_than_two (dots r.1)))

second_dots : (a rest : List ℕ) (o : Option Pair) → at_first_dot rest ≡ o → is_some (at_second_dot a rest) ≡ nat_eq (1 + dots_by o) 2
second_dots a rest None e = rw e
second_dots a rest (Some q) e = rw (e, dots_split q.1) (at_third a q.0 q.1 (at_first_dot q.1) refl)

first_dots : (t : List ℕ) (o : Option Pair) → is_some (option_and_then (λ p. at_second_dot p.0 p.1) o) ≡ nat_eq (dots_by o) 2
first_dots t None = refl
first_dots t (Some p) = rw (dots_split p.1) (second_dots p.0 p.1 (at_first_dot p.1) refl)

-- a text has three parts if and only if it has two dots
pub is_some-three_parts : (t : List ℕ) → is_some (three_parts t) ≡ nat_eq (dots t) 2
unfolding three_parts
is_some-three_parts t = rw (dots_split t) (first_dots t (at_first_dot t))
