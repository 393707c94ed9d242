-- The values of names in pairs, and pairs of which no name stands twice.
use Rattle.std.proofs.Common.{◌≡◌, ◌⊎◌, inl, inr, ⊎_elim, List, [], ◌∷◌, ◌++◌, Bool, true, false, ◌||◌, cond, Option, Some, None, is_some, refl, sym, ◌∙◌, ap}
use Rattle.std.specs.Option.{option_or}
use Rattle.std.specs.Str.{bytes_eq}
use Rattle.sso_base.specs.Lists.{Has}
use Rattle.sso_base.specs.Words.{Text}
use Rattle.request_params.specs.Form.{Pair}
use Rattle.request_params.specs.Reading.{has_name, value_of, StandOnce}
use Rattle.request_params.proofs.NameLaws.{same_text, text_same, other_text}

abbrev only : Bool → Text → Option Text
only b v = cond b (Some v) None

push_at : (b : Bool) (v : Text) (o q r : Option Text) → q ≡ option_or o r → cond b (Some v) q ≡ option_or (cond b (Some v) o) r
push_at true v o q r h = refl
push_at false v o q r h = h

-- one more pair at the end
pub value_of-push : (t : Text) (p : Pair) (xs : List Pair) → value_of t (xs ++ (p ∷ [])) ≡ option_or (value_of t xs) (only (bytes_eq p.0 t) p.1)
value_of-push t p [] = refl
value_of-push t p (x ∷ xs) = push_at (bytes_eq x.0 t) x.1 (value_of t xs) _ _ (value_of-push t p xs)

there_at : (b c : Bool) (v : Text) (o : Option Text) → is_some o ≡ c → is_some (cond b (Some v) o) ≡ (b || c)
there_at true c v o h = refl
there_at false c v o h = h

-- a value is there if and only if its name is
pub value_there : (t : Text) (xs : List Pair) → is_some (value_of t xs) ≡ has_name t xs
value_there t [] = refl
value_there t (x ∷ xs) = there_at (bytes_eq x.0 t) (has_name t xs) x.1 (value_of t xs) (value_there t xs)

pub none_from : {A : Type 0} (o : Option A) → is_some o ≡ false → o ≡ None
none_from None h = refl
none_from (Some a) h = absurd (cc)

pub value_absent : (t : Text) (xs : List Pair) → has_name t xs ≡ false → value_of t xs ≡ None
value_absent t xs h = none_from (value_of t xs) (value_there t xs ∙ h)

-- ---- pairs that are there

found_at : (b : Bool) (u v : Text) (o : Option Text) → cond b (Some u) o ≡ Some v → ((b ≡ true) × (u ≡ v)) ⊎ (o ≡ Some v)
found_at true u v o h = inl (refl, cc)
found_at false u v o h = inr h

same_pair : (x : Pair) (t v : Text) → x.0 ≡ t → x.1 ≡ v → x ≡ (t, v)
same_pair x t v a b = λ i. (a i, b i)

pub has_value : (xs : List Pair) (t v : Text) → value_of t xs ≡ Some v → Has xs (t, v)
has_value [] t v h = absurd (cc)
has_value (x ∷ xs) t v h =
    ⊎_elim (λ at. inl (same_pair x t v (same_text x.0 t at.0) at.1)) (λ later. inr (has_value xs t v later)) (found_at (bytes_eq x.0 t) x.1 v (value_of t xs) h)

or_right : (b c : Bool) → c ≡ true → (b || c) ≡ true
or_right true c h = refl
or_right false c h = h

or_left : (b c : Bool) → b ≡ true → (b || c) ≡ true
or_left true c h = refl
or_left false c h = absurd (cc)

pub has_its_name : (xs : List Pair) (p : Pair) → Has xs p → has_name p.0 xs ≡ true
has_its_name [] p h = absurd h
has_its_name (x ∷ xs) p (inl is) = or_left (bytes_eq x.0 p.0) (has_name p.0 xs) (text_same x.0 p.0 (ap (λ (q : Pair). q.0) is))
has_its_name (x ∷ xs) p (inr later) = or_right (bytes_eq x.0 p.0) (has_name p.0 xs) (has_its_name xs p later)

apart_at : (xs : List Pair) (x p : Pair) (b : Bool) → bytes_eq x.0 p.0 ≡ b → has_name x.0 xs ≡ false → has_name p.0 xs ≡ true → b ≡ false
apart_at xs x p true is none has = (let same : has_name p.0 xs ≡ false = ap (λ t. has_name t xs) (sym (same_text x.0 p.0 is)) ∙ none in absurd (cc))
apart_at xs x p false is none has = refl

-- where no name stands twice, the value of a name is that of any pair with it
pub value_of_pair : (xs : List Pair) (p : Pair) → StandOnce xs → Has xs p → value_of p.0 xs ≡ Some p.1
value_of_pair [] p once h = absurd h
value_of_pair (x ∷ xs) p once (inl is) =
    ap (λ b. cond b (Some x.1) (value_of p.0 xs)) (text_same x.0 p.0 (ap (λ (q : Pair). q.0) is)) ∙ ap (λ (q : Pair). Some q.1) is
value_of_pair (x ∷ xs) p once (inr later) =
    ap (λ b. cond b (Some x.1) (value_of p.0 xs)) (apart_at xs x p (bytes_eq x.0 p.0) refl once.0 (has_its_name xs p later))
    ∙ value_of_pair xs p once.1 later

-- ---- names that stand once

or_false_left : (b c : Bool) → (b || c) ≡ false → b ≡ false
or_false_left true c h = absurd (cc)
or_false_left false c h = refl

or_false_right : (b c : Bool) → (b || c) ≡ false → c ≡ false
or_false_right true c h = absurd (cc)
or_false_right false c h = h

or_false : (b c : Bool) → b ≡ false → c ≡ false → (b || c) ≡ false
or_false true c h k = absurd (cc)
or_false false c h k = k

has_name-push : (t : Text) (p : Pair) (xs : List Pair) → has_name t xs ≡ false → bytes_eq p.0 t ≡ false → has_name t (xs ++ (p ∷ [])) ≡ false
has_name-push t p [] h k = or_false (bytes_eq p.0 t) false k refl
has_name-push t p (x ∷ xs) h k =
    or_false (bytes_eq x.0 t) _ (or_false_left (bytes_eq x.0 t) (has_name t xs) h) (has_name-push t p xs (or_false_right (bytes_eq x.0 t) (has_name t xs) h) k)

pub once-push : (xs : List Pair) (p : Pair) → StandOnce xs → has_name p.0 xs ≡ false → StandOnce (xs ++ (p ∷ []))
once-push [] p once h = (refl, tt)
once-push (x ∷ xs) p once h = (
  has_name-push x.0 p xs once.0 (other_text x.0 p.0 (or_false_left (bytes_eq x.0 p.0) (has_name p.0 xs) h)),
  once-push xs p once.1 (or_false_right (bytes_eq x.0 p.0) (has_name p.0 xs) h),
)

has_name-within : (t : Text) (p : Pair) (xs ys : List Pair) → has_name t (xs ++ (p ∷ ys)) ≡ false → bytes_eq p.0 t ≡ false
has_name-within t p [] ys h = or_false_left (bytes_eq p.0 t) (has_name t ys) h
has_name-within t p (x ∷ xs) ys h = has_name-within t p xs ys (or_false_right (bytes_eq x.0 t) _ h)

-- a name that stands once has not stood before
pub once_before : (xs : List Pair) (p : Pair) (ys : List Pair) → StandOnce (xs ++ (p ∷ ys)) → has_name p.0 xs ≡ false
once_before [] p ys once = refl
once_before (x ∷ xs) p ys once =
    or_false (bytes_eq x.0 p.0) (has_name p.0 xs) (other_text p.0 x.0 (has_name-within x.0 p xs ys once.0)) (once_before xs p ys once.1)
