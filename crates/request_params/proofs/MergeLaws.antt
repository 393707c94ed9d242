-- Parameters are merged if and only if the request beside the object agrees with it and is an OpenID Connect request.
use Rattle.std.proofs.Common.{◌≡◌, ◌⊎◌, inl, inr, List, [], ◌∷◌, Bool, true, false, not, codes, Option, Some, None, Result, Ok, Err, refl, sym, ◌∙◌, ap, subst}
use Rattle.std.specs.Option.{option_or}
use Rattle.sso_base.specs.Words.{Text}
use Rattle.sso_base.specs.Refusals.{first_refusal, and_then}
use Rattle.sso_base.proofs.Decided.{same, are_same, not_not}
use Rattle.request_params.specs.declared.params.Params.{Params}
use Rattle.request_params.specs.declared.name.ParamName.{ParamName}
use Rattle.request_params.specs.declared.name.ParamName.TheVariants.{ResponseType, ClientId}
use Rattle.request_params.specs.declared.no.AskNo.{AskNo}
use Rattle.request_params.specs.declared.no.AskNo.TheVariants as no
use Rattle.request_params.specs.Names.{param_of}
use Rattle.oidc_words.specs.Words.{has_word}
use Rattle.request_params.specs.Merging.{states_word, differ, merged, request_merged, Agrees, IsOpenid, IsMerged, RefusesMerge}
use Rattle.request_params.proofs.NameLaws.{param_of-params_by, same_params}

-- ---- one parameter

abbrev AgreeAt : Option Text → Option Text → Type 0
AgreeAt outer inner = (v : Text) × (outer ≡ Some v) × ((w : Text) → inner ≡ Some w → w ≡ v)

agree_at : (outer inner : Option Text) → differ outer inner ≡ false → AgreeAt outer inner
agree_at None inner h = absurd (cc)
agree_at (Some v) None h = (v, refl, λ w e. absurd (cc))
agree_at (Some v) (Some u) h = (v, refl, λ w e. (let same : u ≡ w = cc in sym same ∙ sym (are_same v u h)))

differ_at : (outer inner : Option Text) → AgreeAt outer inner → differ outer inner ≡ false
differ_at None inner a = (let none : None ≡ Some a.0 = a.1 in absurd (cc))
differ_at (Some v) None a = refl
differ_at (Some v) (Some u) a = (let is : v ≡ a.0 = (let e : Some v ≡ Some a.0 = a.1 in cc) in ap not (same v u (is ∙ sym (a.2 u refl))))

agrees : (name : ParamName) (outer inner : Params) → differ (param_of name outer) (param_of name inner) ≡ false → Agrees name outer inner
agrees name outer inner h =
    let at = agree_at (param_of name outer) (param_of name inner) h in
    record { value = at.0; beside = at.1; inside = at.2 }

pub no_difference : (name : ParamName) (outer inner : Params) → Agrees name outer inner → differ (param_of name outer) (param_of name inner) ≡ false
no_difference name outer inner a = differ_at (param_of name outer) (param_of name inner) (a.value, a.beside, a.inside)

-- ---- the scope

scope_at : (o : Option Text) → not (states_word (codes "openid") o) ≡ false → (t : Text) × (o ≡ Some t) × (has_word (codes "openid") t ≡ true)
scope_at None h = absurd (cc)
scope_at (Some t) h = (t, refl, not_not (has_word (codes "openid") t) h)

is_openid : (params : Params) → not (states_word (codes "openid") params.scope) ≡ false → IsOpenid params
is_openid params h = let at = scope_at params.scope h in record { words = at.0; there = at.1; openid = at.2 }

pub states_openid : (params : Params) → IsOpenid params → not (states_word (codes "openid") params.scope) ≡ false
states_openid params o = ap (λ s. not (states_word (codes "openid") s)) o.there ∙ ap not o.openid

-- ---- the refusals

true_if : (b : Bool) (P : Type 0) → (b ≡ false → P) → ¬ P → b ≡ true
true_if true P f h = refl
true_if false P f h = absurd (h (f refl))

not_false : (b : Bool) → b ≡ true → ¬ (b ≡ false)
not_false true h k = cc
not_false false h k = cc

-- what three conditions say, one after another
abbrev conditions : Bool → Bool → Bool → List (Bool × AskNo)
conditions a b c = (a, no.Differs (codes "client_id")) ∷ (b, no.Differs (codes "response_type")) ∷ (c, no.OuterScope) ∷ []

abbrev judged : Bool → Bool → Bool → Params → Result Params AskNo
judged a b c params = and_then (first_refusal (conditions a b c)) (λ _. Ok params)

judged_ok : (a b c : Bool) (p q : Params) → judged a b c p ≡ Ok q → (a ≡ false) × (b ≡ false) × (c ≡ false) × (p ≡ q)
judged_ok true b c p q h = absurd (cc)
judged_ok false true c p q h = absurd (cc)
judged_ok false false true p q h = absurd (cc)
judged_ok false false false p q h = (refl, refl, refl, cc)

abbrev Why : Bool → Bool → Bool → AskNo → Type 0
Why a b c e =
    ((e ≡ no.Differs (codes "client_id")) × (a ≡ true))
    ⊎ (((e ≡ no.Differs (codes "response_type")) × (a ≡ false) × (b ≡ true)) ⊎ ((e ≡ no.OuterScope) × (a ≡ false) × (b ≡ false) × (c ≡ true)))

judged_err : (a b c : Bool) (p : Params) (e : AskNo) → judged a b c p ≡ Err e → Why a b c e
judged_err true b c p e h = inl (cc, refl)
judged_err false true c p e h = inr (inl (cc, refl, refl))
judged_err false false true p e h = inr (inr (cc, refl, refl, refl))
judged_err false false false p e h = absurd (cc)

abbrev client_differs : Params → Params → Bool
client_differs outer inner = differ outer.client_id inner.client_id

abbrev type_differs : Params → Params → Bool
type_differs outer inner = differ outer.response_type inner.response_type

abbrev scope_lacks : Params → Bool
scope_lacks outer = not (states_word (codes "openid") outer.scope)

merged_judged : (outer inner : Params) → request_merged outer inner ≡ judged (client_differs outer inner) (type_differs outer inner) (scope_lacks outer) (merged outer inner)
unfolding request_merged
merged_judged outer inner = refl

-- ---- what is merged

or_some : (o q : Option Text) (v : Text) → o ≡ Some v → option_or o q ≡ Some v
or_some o q v h = ap (λ x. option_or x q) h

or_none : (o q : Option Text) → o ≡ None → option_or o q ≡ q
or_none o q h = ap (λ x. option_or x q) h

param_merged : (outer inner : Params) (name : ParamName) → param_of name (merged outer inner) ≡ option_or (param_of name inner) (param_of name outer)
param_merged outer inner name = param_of-params_by (λ n. option_or (param_of n inner) (param_of n outer)) name

pub merged-is : (outer inner params : Params) → request_merged outer inner ≡ Ok params → IsMerged outer inner params
merged-is outer inner params h =
    let at = judged_ok (client_differs outer inner) (type_differs outer inner) (scope_lacks outer) (merged outer inner) params (sym (merged_judged outer inner) ∙ h) in
    record {
      client = agrees ClientId outer inner at.0;
      response_type = agrees ResponseType outer inner at.1;
      openid = is_openid outer at.2;
      from_object = λ name v is. ap (param_of name) (sym at.3) ∙ param_merged outer inner name ∙ or_some (param_of name inner) (param_of name outer) v is;
      from_beside = λ name is. ap (param_of name) (sym at.3) ∙ param_merged outer inner name ∙ or_none (param_of name inner) (param_of name outer) is;
    }

first_there : (inner outer p : Option Text) → ((v : Text) → inner ≡ Some v → p ≡ Some v) → (inner ≡ None → p ≡ outer) → option_or inner outer ≡ p
first_there None outer p f g = sym (g refl)
first_there (Some v) outer p f g = sym (f v refl)

pub is-merged : (outer inner params : Params) → IsMerged outer inner params → request_merged outer inner ≡ Ok params
is-merged outer inner params m =
    merged_judged outer inner
    ∙ ap (λ a. judged a (type_differs outer inner) (scope_lacks outer) (merged outer inner)) (no_difference ClientId outer inner m.client)
    ∙ ap (λ b. judged false b (scope_lacks outer) (merged outer inner)) (no_difference ResponseType outer inner m.response_type)
    ∙ ap (λ c. judged false false c (merged outer inner)) (states_openid outer m.openid)
    ∙ ap Ok (same_params (merged outer inner) params (λ name.
    param_merged outer inner name ∙ first_there (param_of name inner) (param_of name outer) (param_of name params) (m.from_object name) (m.from_beside name)))

-- ---- what is refused

refuses_for : (outer inner : Params) (e : AskNo) → Why (client_differs outer inner) (type_differs outer inner) (scope_lacks outer) e → RefusesMerge outer inner e
refuses_for outer inner e (inl w) =
    subst (RefusesMerge outer inner) (sym w.0) (inl (refl, λ a. not_false _ w.1 (no_difference ClientId outer inner a)))
refuses_for outer inner e (inr (inl w)) =
    subst (RefusesMerge outer inner) (sym w.0) (inr (refl, agrees ClientId outer inner w.1, λ a. not_false _ w.2 (no_difference ResponseType outer inner a)))
refuses_for outer inner e (inr (inr w)) =
    subst (RefusesMerge outer inner) (sym w.0) (agrees ClientId outer inner w.1, agrees ResponseType outer inner w.2, λ o. not_false _ w.3 (states_openid outer o))

pub merge_refused : (outer inner : Params) (e : AskNo) → request_merged outer inner ≡ Err e → RefusesMerge outer inner e
merge_refused outer inner e h =
    refuses_for outer inner e (judged_err (client_differs outer inner) (type_differs outer inner) (scope_lacks outer) (merged outer inner) e (sym (merged_judged outer inner) ∙ h))

client_refused : (outer inner : Params) → ¬ Agrees ClientId outer inner → request_merged outer inner ≡ Err (no.Differs (codes "client_id"))
client_refused outer inner h =
    merged_judged outer inner
    ∙ ap (λ a. judged a (type_differs outer inner) (scope_lacks outer) (merged outer inner)) (true_if (client_differs outer inner) (Agrees ClientId outer inner) (agrees ClientId outer inner) h)

type_refused : (outer inner : Params) → Agrees ClientId outer inner → ¬ Agrees ResponseType outer inner → request_merged outer inner ≡ Err (no.Differs (codes "response_type"))
type_refused outer inner a h =
    merged_judged outer inner
    ∙ ap (λ x. judged x (type_differs outer inner) (scope_lacks outer) (merged outer inner)) (no_difference ClientId outer inner a)
    ∙ ap (λ b. judged false b (scope_lacks outer) (merged outer inner)) (true_if (type_differs outer inner) (Agrees ResponseType outer inner) (agrees ResponseType outer inner) h)

scope_refused : (outer inner : Params) → Agrees ClientId outer inner → Agrees ResponseType outer inner → ¬ IsOpenid outer → request_merged outer inner ≡ Err no.OuterScope
scope_refused outer inner a b h =
    merged_judged outer inner
    ∙ ap (λ x. judged x (type_differs outer inner) (scope_lacks outer) (merged outer inner)) (no_difference ClientId outer inner a)
    ∙ ap (λ x. judged false x (scope_lacks outer) (merged outer inner)) (no_difference ResponseType outer inner b)
    ∙ ap (λ c. judged false false c (merged outer inner)) (true_if (scope_lacks outer) (IsOpenid outer) (is_openid outer) h)

pub refused_merge : (outer inner : Params) (e : AskNo) → RefusesMerge outer inner e → request_merged outer inner ≡ Err e
refused_merge outer inner (no.Twice name) r = absurd r
refused_merge outer inner (no.Differs name) (inl r) = client_refused outer inner r.1 ∙ ap (λ t. Err (no.Differs t)) (sym r.0)
refused_merge outer inner (no.Differs name) (inr r) = type_refused outer inner r.1 r.2 ∙ ap (λ t. Err (no.Differs t)) (sym r.0)
refused_merge outer inner no.OuterScope r = scope_refused outer inner r.0 r.1 r.2
refused_merge outer inner no.NoMemory r = absurd r
