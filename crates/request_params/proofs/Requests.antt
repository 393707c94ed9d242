-- What is read is what stands in the form, and what is refused repeats a name.
use Rattle.std.proofs.Common.{◌≡◌, ℕ, List, [], Option, Some, None, Ok, Err, refl, sym, ◌∙◌, ap, subst}
use Rattle.sso_base.specs.Words.{Text}
use Rattle.request_params.specs.declared.params.Params.{Params}
use Rattle.request_params.specs.declared.name.ParamName.{ParamName}
use Rattle.request_params.specs.declared.no.AskNo.{AskNo}
use Rattle.request_params.specs.declared.no.AskNo.TheVariants as no
use Rattle.request_params.specs.Names.{name_text, param_of}
use Rattle.request_params.specs.Form.{Pair}
use Rattle.request_params.specs.Reading.{kept_pairs, value_of, first_repeated, params_in, unless_repeated, request_read, StandOnce, RepeatsFirst, HasRequest, RefusesForm}
use Rattle.request_params.proofs.NameLaws.{param_of-params_by, same_params}
use Rattle.request_params.proofs.Values.{has_value, value_of_pair}
use Rattle.request_params.proofs.Repeated.{none_repeated, repeated_none, some_repeated, repeated_first, given_once, given_twice}

param_in : (pairs : List Pair) (params : Params) → params_in pairs ≡ params → (name : ParamName) → value_of (name_text name) pairs ≡ param_of name params
param_in pairs params is name = sym (param_of-params_by (λ n. value_of (name_text n) pairs) name) ∙ ap (param_of name) is

pub read-request : (form : List ℕ) (params : Params) → request_read form ≡ Ok params → HasRequest form params
unfolding request_read
read-request form params h =
    let pairs = kept_pairs form in
    let at = given_once no.Twice (first_repeated pairs) (params_in pairs) params h in
    let once : StandOnce pairs = none_repeated [] pairs tt at.0 in
    let value = param_in pairs params (sym at.1) in
    record {
      once = once;
      stands = λ name v is. has_value pairs (name_text name) v (value name ∙ is);
      all = λ name v has. sym (value name) ∙ value_of_pair pairs (name_text name, v) once has;
    }

both_at : (o q : Option Text) → ((v : Text) → o ≡ Some v → q ≡ Some v) → ((v : Text) → q ≡ Some v → o ≡ Some v) → o ≡ q
both_at None None f g = refl
both_at None (Some v) f g = g v refl
both_at (Some v) q f g = sym (f v refl)

pub request-read : (form : List ℕ) (params : Params) → HasRequest form params → request_read form ≡ Ok params
unfolding request_read
request-read form params r =
    let pairs = kept_pairs form in
    let none : first_repeated pairs ≡ None = repeated_none [] pairs r.once in
    let same : params_in pairs ≡ params = same_params (params_in pairs) params (λ name.
    param_of-params_by (λ n. value_of (name_text n) pairs) name
    ∙ both_at (value_of (name_text name) pairs) (param_of name params)
    (λ v is. r.all name v (has_value pairs (name_text name) v is))
    (λ v is. value_of_pair pairs (name_text name, v) r.once (r.stands name v is))) in
    ap (λ o. unless_repeated o (params_in pairs)) none ∙ ap Ok same

pub refused-repeats : (form : List ℕ) (e : AskNo) → request_read form ≡ Err e → (name : Text) × (e ≡ no.Twice name) × RepeatsFirst (kept_pairs form) name
unfolding request_read
refused-repeats form e h =
    let pairs = kept_pairs form in
    let at = given_twice no.Twice (first_repeated pairs) (params_in pairs) e h in
    (at.0, at.2, some_repeated [] pairs at.0 tt at.1)

pub repeats-refused : (form : List ℕ) (name : Text) → RepeatsFirst (kept_pairs form) name → request_read form ≡ Err (no.Twice name)
unfolding request_read
repeats-refused form name r = ap (λ o. unless_repeated o (params_in (kept_pairs form))) (repeated_first (kept_pairs form) name r)

pub form_refused : (form : List ℕ) (e : AskNo) → request_read form ≡ Err e → RefusesForm form e
form_refused form e h =
    let at = refused-repeats form e h in
    subst (RefusesForm form) (sym at.1) at.2

pub refused_form : (form : List ℕ) (e : AskNo) → RefusesForm form e → request_read form ≡ Err e
refused_form form (no.Twice name) r = repeats-refused form name r
refused_form form (no.Differs name) r = absurd r
refused_form form no.OuterScope r = absurd r
refused_form form no.NoMemory r = absurd r
