-- Lists: what follows for each element from a test that finds nothing, the position in a longer list, and elements by index.
use Rattle.std.proofs.Common.{◌≡◌, ◌<◌, ℕ, zero, suc, Bool, true, false, List, [], ◌∷◌, ◌++◌, length, slice_index_or, ◌||◌, ◌⊎◌, inl, inr, refl, sym, ap, ◌∙◌, subst, arith}
use Rattle.std.proofs.lemmas.Bool.{or_parts}
use Rattle.std.specs.List.{list_any}
use Rattle.sso_base.proofs.RowLaws.{bool_cases}
use Rattle.sso_model.specs.Lists.{Has, AreDistinct}
use Rattle.sso_model.proofs.ListLaws.{has_append_left}

-- a test that no element passes fails at each
pub any_none : {A : Type 0} (test : A → Bool) (xs : List A) (x : A) → list_any test xs ≡ false → Has xs x → test x ≡ false
any_none test [] x none has = absurd has
any_none test (y ∷ ys) x none (inl same) = ap test (sym same) ∙ (or_parts (test y) (list_any test ys) none).0
any_none test (y ∷ ys) x none (inr has) = any_none test ys x (or_parts (test y) (list_any test ys) none).1 has

-- a test that an element passes finds one
pub any_some : {A : Type 0} (test : A → Bool) (xs : List A) (x : A) → Has xs x → test x ≡ true → list_any test xs ≡ true
any_some test xs x has passes =
    elim (bool_cases (list_any test xs)) [
      | inl found ↦ found
      | inr away ↦ (let never : true ≡ false = sym passes ∙ any_none test xs x away has in cc)
    ]

-- and one that it finds passes
pub any_has : {A : Type 0} (test : A → Bool) (xs : List A) → list_any test xs ≡ true → (x : A) × Has xs x × (test x ≡ true)
any_has test [] found = cc
any_has {A} test (y ∷ ys) found =
    let T : Bool → Bool = λ b. b || list_any test ys in
    elim (bool_cases (test y)) [
      | inl here ↦ (y, inl refl, here)
      | inr away ↦ (let rest = any_has test ys (sym (ap T away) ∙ found) in (rest.0, inr rest.1, rest.2))
    ]

-- an element of the concatenation of two lists is in one of them
pub has_append : {A : Type 0} (xs ys : List A) (x : A) → Has (xs ++ ys) x → Has xs x ⊎ Has ys x
has_append [] ys x has = inr has
has_append (z ∷ xs) ys x (inl same) = inl (inl same)
has_append (z ∷ xs) ys x (inr has) = elim (has_append xs ys x has) [ inl left ↦ inl (inr left) | inr right ↦ inr right ]

-- ---- by index, and apart

pub index_has : {A : Type 0} (xs : List A) (k : ℕ) (d : A) → k < length xs → Has xs (slice_index_or xs k d)
index_has [] k d low = absurd (omega arith)
index_has (x ∷ xs) zero d low = inl refl
index_has (x ∷ xs) (suc k) d low = inr (index_has xs k d (omega arith))

-- two elements at different positions of a list of distinct ones differ
pub index_other : {A : Type 0} (xs ys : List A) (j k : ℕ) (d : A) → AreDistinct (xs ++ ys) → j < k → k < length xs → slice_index_or xs j d ≡ slice_index_or xs k d → ⊥
index_other [] ys j k d distinct order low same = absurd (omega arith)
index_other (x ∷ xs) ys j zero d distinct order low same = absurd (omega arith)
index_other {A} (x ∷ xs) ys zero (suc k) d distinct order low same =
    distinct.0 (has_append_left xs ys x (subst (Has xs) (sym same) (index_has xs k d (omega arith))))
index_other (x ∷ xs) ys (suc j) (suc k) d distinct order low same = index_other xs ys j k d distinct.1 (omega arith) (omega arith) same
