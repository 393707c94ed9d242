-- Which client a request authenticates, whatever it requests.
use Rattle.std.proofs.Common.{◌≡◌, ℕ, List, [], Option, Some, None, unwrap_or, Result, Ok, Err, refl, ap, ◌∙◌}
use Rattle.sso_base.specs.Refusals.{first_refusal, and_then}
use Rattle.client_registry.specs.Configuration.{Configuration}
use Rattle.request_params.specs.Form.{form_pairs}
use Rattle.token_endpoint.specs.declared.no.GrantNo.{GrantNo}
use Rattle.token_endpoint.specs.declared.no.GrantNo.TheVariants.{BadForm}
use Rattle.token_endpoint.specs.Authentication.{client_shown, client_refusals, client_read}
use Rattle.token_endpoint.specs.Basic.{basic_header}
use Rattle.token_endpoint.specs.Request.{client_asked, code_read, grant_read}
use Rattle.token_endpoint.specs.Granted.{IsOfClient, Cause}
use Rattle.token_endpoint.proofs.Authenticating.{IdsDiffer, client_is, is_client}
use Rattle.token_endpoint.proofs.Refused.{client_caused}

first_error : {A B E : Type 0} (r : Result A E) (b : B) (e : E) → and_then r (λ _. Ok b) ≡ Err e → r ≡ Err e
first_error (Ok a) b e h = absurd (cc)
first_error (Err d) b e h = cc

same_error : {A E : Type 0} (d e : E) → ◌≡◌ {A = Result A E} (Err d) (Err e) → e ≡ d
same_error d e h = cc

pub of_client : (c : Configuration) (auth body : Option (List ℕ)) (n : ℕ) → client_asked c auth body ≡ Ok n → IsOfClient c auth body n
unfolding client_asked
of_client c auth None n h = absurd (cc)
of_client c auth (Some form) n h =
    let known = client_is c auth (form_pairs form) n h in
    record { form = form; there = refl; once = known.0; client = known.1 }

form_asked : (c : Configuration) (auth : Option (List ℕ)) (form : List ℕ) (n : ℕ) → client_read c auth (form_pairs form) ≡ Ok n → client_asked c auth (Some form) ≡ Ok n
unfolding client_asked
form_asked c auth form n h = h

pub is_of_client : (c : Configuration) (auth body : Option (List ℕ)) (n : ℕ) → IdsDiffer c → IsOfClient c auth body n → client_asked c auth body ≡ Ok n
is_of_client c auth body n apart i =
    ap (client_asked c auth) i.there ∙ form_asked c auth i.form n (is_client c auth (form_pairs i.form) n i.once apart i.client)

refusal_of : (c : Configuration) (auth : Option (List ℕ)) (form : List ℕ) (e : GrantNo) → client_read c auth (form_pairs form) ≡ Err e → first_refusal (client_refusals c (basic_header auth) (form_pairs form)) ≡ Err e
unfolding client_read
refusal_of c auth form e h =
    first_error (first_refusal (client_refusals c (basic_header auth) (form_pairs form))) (unwrap_or (client_shown c (basic_header auth) (form_pairs form)) 0) e h

pub client_cause : (c : Configuration) (auth body : Option (List ℕ)) (e : GrantNo) → IdsDiffer c → client_asked c auth body ≡ Err e → Cause c auth body e
unfolding client_asked
client_cause c auth None e apart h = same_error BadForm e h
client_cause c auth (Some form) e apart h = client_caused c auth (form_pairs form) e apart (refusal_of c auth form e h)

-- a request for a code is read for its client
pub for_its_client : (c : Configuration) (auth body : Option (List ℕ)) → grant_read c auth body ≡ and_then (client_asked c auth body) (code_read (form_pairs (unwrap_or body [])))
unfolding grant_read client_asked
for_its_client c auth None = refl
for_its_client c auth (Some form) = refl
