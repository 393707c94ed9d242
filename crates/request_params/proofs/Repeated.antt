-- The first repeated name is found if and only if there is one.
use Rattle.std.proofs.Common.{◌≡◌, ◌⊎◌, inl, inr, ⊎_elim, List, [], ◌∷◌, ◌++◌, Bool, true, false, cond, Option, Some, None, Ok, Err, refl, sym, ◌∙◌, ap, subst, append_assoc, append-nil}
use Rattle.sso_base.specs.Words.{Text}
use Rattle.request_params.specs.Form.{Pair}
use Rattle.request_params.specs.Reading.{has_name, repeated_after, first_repeated, unless_twice, StandOnce, RepeatsFirst}
use Rattle.request_params.proofs.Values.{once-push, once_before}

-- one step on
abbrev next : List Pair → Pair → List Pair → List Pair
next xs p ys = xs ++ (p ∷ []) ++ ys

pub one_on : (xs : List Pair) (p : Pair) (ys : List Pair) → xs ++ (p ∷ []) ++ ys ≡ xs ++ (p ∷ ys)
one_on xs p ys = append_assoc xs (p ∷ []) ys

none_at : (b : Bool) (t : Text) (o : Option Text) → cond b (Some t) o ≡ None → (b ≡ false) × (o ≡ None)
none_at true t o h = absurd (cc)
none_at false t o h = (refl, h)

pub none_repeated : (xs ys : List Pair) → StandOnce xs → repeated_after xs ys ≡ None → StandOnce (xs ++ ys)
none_repeated xs [] once h = subst StandOnce (sym (append-nil xs)) once
none_repeated xs (p ∷ ys) once h =
    let at = none_at (has_name p.0 xs) p.0 (repeated_after (xs ++ (p ∷ [])) ys) h in
    subst StandOnce (one_on xs p ys) (none_repeated (xs ++ (p ∷ [])) ys (once-push xs p once at.0) at.1)

pub repeated_none : (xs ys : List Pair) → StandOnce (xs ++ ys) → repeated_after xs ys ≡ None
repeated_none xs [] once = refl
repeated_none xs (p ∷ ys) once =
    ap (λ b. cond b (Some p.0) (repeated_after (xs ++ (p ∷ [])) ys)) (once_before xs p ys once)
    ∙ repeated_none (xs ++ (p ∷ [])) ys (subst StandOnce (sym (one_on xs p ys)) once)

some_at : (b : Bool) (t u : Text) (o : Option Text) → cond b (Some t) o ≡ Some u → ((b ≡ true) × (t ≡ u)) ⊎ ((b ≡ false) × (o ≡ Some u))
some_at true t u o h = inl (refl, cc)
some_at false t u o h = inr (refl, h)

pub some_repeated : (xs ys : List Pair) (t : Text) → StandOnce xs → repeated_after xs ys ≡ Some t → RepeatsFirst (xs ++ ys) t
some_repeated xs [] t once h = absurd (cc)
some_repeated xs (p ∷ ys) t once h =
    ⊎_elim
    (λ at. record {
      before = xs;
      value = p.1;
      after = ys;
      cut = λ i. xs ++ ((at.1 i, p.1) ∷ ys);
      once = once;
      stood = subst (λ u. has_name u xs ≡ true) at.1 at.0;
    })
    (λ later. subst (λ all. RepeatsFirst all t) (one_on xs p ys) (some_repeated (xs ++ (p ∷ [])) ys t (once-push xs p once later.0) later.1))
    (some_at (has_name p.0 xs) p.0 t (repeated_after (xs ++ (p ∷ [])) ys) h)

-- over pairs whose names stand once nothing is found
passed : (xs ys zs : List Pair) → StandOnce (xs ++ ys) → repeated_after xs (ys ++ zs) ≡ repeated_after (xs ++ ys) zs
passed xs [] zs once = ap (λ all. repeated_after all zs) (sym (append-nil xs))
passed xs (p ∷ ys) zs once =
    ap (λ b. cond b (Some p.0) (repeated_after (xs ++ (p ∷ [])) (ys ++ zs))) (once_before xs p ys once)
    ∙ passed (xs ++ (p ∷ [])) ys zs (subst StandOnce (sym (one_on xs p ys)) once)
    ∙ ap (λ all. repeated_after all zs) (one_on xs p ys)

pub repeated_first : (pairs : List Pair) (t : Text) → RepeatsFirst pairs t → first_repeated pairs ≡ Some t
repeated_first pairs t r =
    ap first_repeated r.cut
    ∙ passed [] r.before ((t, r.value) ∷ r.after) r.once
    ∙ ap (λ b. cond b (Some t) (repeated_after (r.before ++ ((t, r.value) ∷ [])) r.after)) r.stood

-- ---- what is given, unless a name is repeated

pub given_once : {A E : Type 0} (twice : Text → E) (o : Option Text) (a b : A) → unless_twice twice o a ≡ Ok b → (o ≡ None) × (b ≡ a)
given_once twice None a b h = (refl, cc)
given_once twice (Some t) a b h = absurd (cc)

pub given_twice : {A E : Type 0} (twice : Text → E) (o : Option Text) (a : A) (e : E) → unless_twice twice o a ≡ Err e → (t : Text) × (o ≡ Some t) × (e ≡ twice t)
given_twice twice None a e h = absurd (cc)
given_twice twice (Some t) a e h = (t, refl, cc)
