-- Small lemmas about lists: what is true for each element, the elements of a list, and lists without repeated elements.
use Rattle.std.proofs.Common.{◌≡◌, Bool, true, false, cond, List, [], ◌∷◌, ◌++◌, filter, inl, inr, refl, sym, ap, ◌∙◌, subst}
use Rattle.std.specs.List.{AllByRecursion}
use Rattle.sso_model.specs.Lists.{Has, Lacks, AreDistinct}

-- each element has what follows from what each has
pub all_weaker : {A : Type 0} (P Q : A → Type 0) (xs : List A) → ((x : A) → P x → Q x) → AllByRecursion P xs → AllByRecursion Q xs
all_weaker P Q [] weaker all = tt
all_weaker P Q (x ∷ xs) weaker all = (weaker x all.0, all_weaker P Q xs weaker all.1)

-- each element has what follows from two things that each has
pub all_both : {A : Type 0} (P Q R : A → Type 0) (xs : List A) → ((x : A) → P x → Q x → R x) → AllByRecursion P xs → AllByRecursion Q xs → AllByRecursion R xs
all_both P Q R [] both first second = tt
all_both P Q R (x ∷ xs) both first second = (both x first.0 second.0, all_both P Q R xs both first.1 second.1)

-- an element that the list has is one of those of which it holds
pub all_has : {A : Type 0} (P : A → Type 0) (xs : List A) (x : A) → AllByRecursion P xs → Has xs x → P x
all_has P [] x all has = absurd has
all_has P (y ∷ ys) x all (inl same) = subst P same all.0
all_has P (y ∷ ys) x all (inr has) = all_has P ys x all.1 has

-- what is true for each is true for each that a test keeps
pub all_filter : {A : Type 0} (P : A → Type 0) (test : A → Bool) (xs : List A) → AllByRecursion P xs → AllByRecursion P (filter test xs)
all_filter P test [] all = tt
all_filter P test (x ∷ xs) all =
    elim (test x) as (λ b. AllByRecursion P (cond b (x ∷ filter test xs) (filter test xs))) [ true ↦ (all.0, all_filter P test xs all.1) | false ↦ all_filter P test xs all.1 ]

-- what is true for each element of two lists is true for each of their concatenation
pub all_append : {A : Type 0} (P : A → Type 0) (xs ys : List A) → AllByRecursion P xs → AllByRecursion P ys → AllByRecursion P (xs ++ ys)
all_append P [] ys first second = second
all_append P (x ∷ xs) ys first second = (first.0, all_append P xs ys first.1 second)

-- both together have what the first has
pub has_append_left : {A : Type 0} (xs ys : List A) (x : A) → Has xs x → Has (xs ++ ys) x
has_append_left [] ys x has = absurd has
has_append_left (y ∷ xs) ys x (inl same) = inl same
has_append_left (y ∷ xs) ys x (inr has) = inr (has_append_left xs ys x has)

-- both together have what the second has
pub has_append_right : {A : Type 0} (xs ys : List A) (x : A) → Has ys x → Has (xs ++ ys) x
has_append_right [] ys x has = has
has_append_right (y ∷ xs) ys x has = inr (has_append_right xs ys x has)

-- a test keeps an element that passes it
pub has_filter : {A : Type 0} (test : A → Bool) (xs : List A) (x : A) → test x ≡ true → Has xs x → Has (filter test xs) x
has_filter test [] x passes has = has
has_filter test (y ∷ ys) x passes (inl same) =
    let HasIf : Bool → Type 0 = λ b. Has (cond b (y ∷ filter test ys) (filter test ys)) x in
    subst HasIf (sym (ap test same ∙ passes)) (inl same)
has_filter test (y ∷ ys) x passes (inr has) =
    elim (test y) as (λ b. Has (cond b (y ∷ filter test ys) (filter test ys)) x) [ true ↦ inr (has_filter test ys x passes has) | false ↦ has_filter test ys x passes has ]

-- the list has each element that a test keeps of it
pub filter_has : {A : Type 0} (test : A → Bool) (xs : List A) → AllByRecursion (Has xs) (filter test xs)
filter_has test [] = tt
filter_has test (x ∷ xs) =
    let rest : AllByRecursion (Has (x ∷ xs)) (filter test xs) = all_weaker (Has xs) (Has (x ∷ xs)) (filter test xs) (λ y has. inr has) (filter_has test xs) in
    elim (test x) as (λ b. AllByRecursion (Has (x ∷ xs)) (cond b (x ∷ filter test xs) (filter test xs))) [ true ↦ (inl refl, rest) | false ↦ rest ]

-- if no element occurs twice in a concatenation, none does in the second list
pub distinct_tail : {A : Type 0} (xs ys : List A) → AreDistinct (xs ++ ys) → AreDistinct ys
distinct_tail [] ys distinct = distinct
distinct_tail (x ∷ xs) ys distinct = distinct_tail xs ys distinct.1

-- if no element occurs twice in a concatenation, the second list lacks what the first has
pub distinct_apart : {A : Type 0} (xs ys : List A) (x : A) → AreDistinct (xs ++ ys) → Has xs x → Lacks ys x
distinct_apart [] ys x distinct has = absurd has
distinct_apart (y ∷ xs) ys x distinct (inl same) = λ has. distinct.0 (has_append_right xs ys y (subst (Has ys) (sym same) has))
distinct_apart (y ∷ xs) ys x distinct (inr has) = distinct_apart xs ys x distinct.1 has
