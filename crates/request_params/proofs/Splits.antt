-- A list that is split at the first of these bytes.
use Rattle.std.proofs.Common.{◌≡◌, ℕ, zero, suc, ◌+◌, ◌-◌, ◌<◌, ◌||◌, ◌==◌, List, [], ◌∷◌, ◌++◌, length, take, drop, get_or, Option, Some, None, option_map, Bool, true, false, refl, sym, ap, ◌∙◌, arith, cond}
use Rattle.std.proofs.lemmas.List.{take_rest}
use Rattle.std.proofs.lemmas.Bool.Decides.{nat_tests}
use Rattle.request_params.specs.Scheme.{split_once, has_byte}

not_mark : (mark x : ℕ) → (x ≡ mark → ⊥) → (x == mark) ≡ false
not_mark mark x h = grind (arith, nat_tests)

is_mark : (mark x : ℕ) → (x == mark) ≡ true → x ≡ mark
is_mark mark x h = grind (arith, nat_tests)

mark_is : (mark : ℕ) → (mark == mark) ≡ true
mark_is mark = grind (arith, nat_tests)

-- ---- places

pub split_none : (mark : ℕ) (xs : List ℕ) → ((k : ℕ) → k < length xs → get_or xs k 0 ≡ mark → ⊥) → split_once mark xs ≡ None
split_none mark [] h = refl
split_none mark (x ∷ xs) h = rw (not_mark mark x (h 0 (omega arith)), split_none mark xs (λ k b. h (suc k) (omega arith)))

split_here : (mark : ℕ) (xs : List ℕ) (i : ℕ) → i < length xs → ((k : ℕ) → k < i → get_or xs k 0 ≡ mark → ⊥) → get_or xs i 0 ≡ mark → split_once mark xs ≡ Some (take i xs, drop (suc i) xs)
split_here mark [] i b h e = absurd (omega arith)
split_here mark (x ∷ xs) zero b h e = rw (e, mark_is mark) refl
split_here mark (x ∷ xs) (suc i) b h e = rw (not_mark mark x (h 0 (omega arith)), split_here mark xs i (omega arith) (λ k c. h (suc k) (omega arith)) e)

pub split_at : (mark : ℕ) (xs : List ℕ) (i : ℕ) → i < length xs → ((k : ℕ) → k < i → get_or xs k 0 ≡ mark → ⊥) → get_or xs i 0 ≡ mark → Some (take i xs, take (length xs - (i + 1)) (drop (i + 1) xs)) ≡ split_once mark xs
split_at mark xs i b h e =
    let n : i + 1 ≡ suc i = omega arith in
    rw (take_rest xs (i + 1), n) (sym (split_here mark xs i b h e))

-- ---- parts

pub either_false : (b c : Bool) → (b || c) ≡ false → (b ≡ false) × (c ≡ false)
either_false true c h = absurd (cc)
either_false false c h = (refl, h)

neither : (b c : Bool) → b ≡ false → c ≡ false → (b || c) ≡ false
neither true c h k = absurd (cc)
neither false c h k = k

-- a list without the mark, the mark, and more
pub split_join : (mark : ℕ) (a b : List ℕ) → has_byte mark a ≡ false → split_once mark (a ++ mark ∷ b) ≡ Some (a, b)
split_join mark [] b h = rw (mark_is mark) refl
split_join mark (x ∷ a) b h = let parts = either_false (x == mark) (has_byte mark a) h in rw (parts.0, split_join mark a b parts.1)

-- a list without the mark
pub split_absent : (mark : ℕ) (t : List ℕ) → has_byte mark t ≡ false → split_once mark t ≡ None
split_absent mark [] h = refl
split_absent mark (x ∷ t) h = let parts = either_false (x == mark) (has_byte mark t) h in rw (parts.0, split_absent mark t parts.1)

abbrev Parts : Type 0
Parts = List ℕ × List ℕ

same_parts : (p q : Parts) → Some p ≡ Some q → p ≡ q
same_parts p q e = cc

-- what was split is joined again, and the mark is not in its first part
abbrev pub Joins : ℕ → List ℕ → Parts → Type 0
Joins mark t q = (t ≡ q.0 ++ mark ∷ q.1) × (has_byte mark q.0 ≡ false)

later_joins : (mark x : ℕ) (xs : List ℕ) (q : Parts) (o : Option Parts) → (x == mark) ≡ false → ((p : Parts) → o ≡ Some p → Joins mark xs p) → option_map {U = Parts} (λ p. (x ∷ p.0, p.1)) o ≡ Some q → Joins mark (x ∷ xs) q
later_joins mark x xs q None other h e = absurd (cc)
later_joins mark x xs q (Some p) other h e =
    let same : (x ∷ p.0, p.1) ≡ q = same_parts (x ∷ p.0, p.1) q e in
    let parts = h p refl in (
      ap (λ l. x ∷ l) parts.0 ∙ ap (λ (r : Parts). r.0 ++ mark ∷ r.1) same,
      ap (λ (r : Parts). has_byte mark r.0) (sym same) ∙ neither (x == mark) (has_byte mark p.0) other parts.1,
    )

joins_at : (mark x : ℕ) (xs : List ℕ) (q : Parts) (t : Bool) → (x == mark) ≡ t → ((p : Parts) → split_once mark xs ≡ Some p → Joins mark xs p)
    → cond t (Some ([], xs)) (option_map {U = Parts} (λ p. (x ∷ p.0, p.1)) (split_once mark xs)) ≡ Some q → Joins mark (x ∷ xs) q
joins_at mark x xs q true is h e =
    let same : ([], xs) ≡ q = same_parts ([], xs) q e in
    (ap (λ y. y ∷ xs) (is_mark mark x is) ∙ ap (λ (r : Parts). r.0 ++ mark ∷ r.1) same, ap (λ (r : Parts). has_byte mark r.0) (sym same))
joins_at mark x xs q false is h e = later_joins mark x xs q (split_once mark xs) is h e

pub split_joins : (mark : ℕ) (t : List ℕ) (q : Parts) → split_once mark t ≡ Some q → Joins mark t q
split_joins mark [] q e = absurd (cc)
split_joins mark (x ∷ xs) q e = joins_at mark x xs q (x == mark) refl (λ p f. split_joins mark xs p f) e

-- no part where the mark is nowhere
none_later : (x : ℕ) (o : Option Parts) → option_map {U = Parts} (λ p. (x ∷ p.0, p.1)) o ≡ None → o ≡ None
none_later x None e = refl
none_later x (Some p) e = absurd (cc)

none_at : (mark x : ℕ) (xs : List ℕ) (t : Bool) → (x == mark) ≡ t → (split_once mark xs ≡ None → has_byte mark xs ≡ false)
    → cond t (Some ([], xs)) (option_map {U = Parts} (λ p. (x ∷ p.0, p.1)) (split_once mark xs)) ≡ None → (t || has_byte mark xs) ≡ false
none_at mark x xs true is h e = absurd (cc)
none_at mark x xs false is h e = h (none_later x (split_once mark xs) e)

pub absent_split : (mark : ℕ) (t : List ℕ) → split_once mark t ≡ None → has_byte mark t ≡ false
absent_split mark [] e = refl
absent_split mark (x ∷ xs) e = none_at mark x xs (x == mark) refl (absent_split mark xs) e
