-- A form is read as a token request if and only if it is one, and as the request that it is.
use Rattle.std.proofs.Common.{◌≡◌, ℕ, true, List, [], codes, Option, Some, None, is_none, unwrap_or, Result, Ok, slice_get, refl, sym, ap, ◌∙◌, subst}
use Rattle.std.specs.Str.{IsUtf8}
use Rattle.form_urlencoded.specs.Form.{raw_pairs}
use Rattle.sso_base.specs.Lists.{Has}
use Rattle.sso_base.specs.Words.{Text}
use Rattle.sso_base.specs.Refusals.{first_refusal, NoneHolds, and_then}
use Rattle.sso_base.specs.Texts.{is_other}
use Rattle.sso_base.proofs.Refusals.{none_holds, and_then_ok, one_value}
use Rattle.client_registry.specs.declared.records.Client.{Client}
use Rattle.client_registry.specs.Configuration.{Configuration}
use Rattle.client_registry.specs.Secrets.{has_secret}
use Rattle.request_params.specs.Form.{Pair, form_pairs}
use Rattle.request_params.specs.Reading.{value_of}
use Rattle.request_params.proofs.Values.{has_value, value_of_pair}
use Rattle.request_params.proofs.Lossy.{pair_read}
use Rattle.token_endpoint.specs.declared.granting.Grant.{Grant}
use Rattle.token_endpoint.specs.declared.no.GrantNo.{GrantNo}
use Rattle.token_endpoint.specs.declared.no.GrantNo.TheVariants.{OtherGrant, Missing}
use Rattle.token_endpoint.specs.Authentication.{client_read, credentials}
use Rattle.token_endpoint.specs.Request.{code_refusals, grant_in, code_read, grant_read}
use Rattle.token_endpoint.specs.Granted.{Shows, Authenticates, IsGrant}
use Rattle.token_endpoint.proofs.Lookups.{there_of}
use Rattle.token_endpoint.proofs.Authenticating.{IdsDiffer, not_other, is_same, client_is, none_of_four, is_client}

abbrev grant_ok : Grant → Result Grant GrantNo
grant_ok g = Ok g

-- ---- the parameters

-- the parameters ask for this grant
record AsksFor (ps : List Pair) (g : Grant) : Type 0 where
  grant_type : value_of (codes "grant_type") ps ≡ Some (codes "authorization_code")
  code : value_of (codes "code") ps ≡ Some g.code
  redirect : value_of (codes "redirect_uri") ps ≡ Some g.redirect

value_is : (o : Option Text) (v : Text) → o ≡ Some v → unwrap_or o [] ≡ v
value_is o v h = ap (λ p. unwrap_or p []) h

code_is : (ps : List Pair) (n : ℕ) (g : Grant) → code_read ps n ≡ Ok g → AsksFor ps g × (n ≡ g.client)
unfolding code_read
code_is ps n g h =
    let passed = and_then_ok (first_refusal (code_refusals ps)) (λ _. grant_ok (grant_in ps n)) g h in
    let tests : NoneHolds (code_refusals ps) = none_holds (code_refusals ps) passed.1 in
    let this : grant_in ps n ≡ g = one_value GrantNo (grant_in ps n) g passed.2 in
    let kind = there_of (value_of (codes "grant_type") ps) tests.1.0 in
    let code = there_of (value_of (codes "code") ps) tests.1.1.0 in
    let redirect = there_of (value_of (codes "redirect_uri") ps) tests.1.1.1.0 in
    let right : kind.0 ≡ codes "authorization_code" = not_other (codes "authorization_code") (value_of (codes "grant_type") ps) tests.0 kind.0 kind.1 in (
      record {
        grant_type = kind.1 ∙ ap Some right;
        code = code.1 ∙ ap Some (sym (value_is (value_of (codes "code") ps) code.0 code.1) ∙ ap (λ (x : Grant). x.code) this);
        redirect = redirect.1 ∙ ap Some (sym (value_is (value_of (codes "redirect_uri") ps) redirect.0 redirect.1) ∙ ap (λ (x : Grant). x.redirect) this);
      },
      ap (λ (x : Grant). x.client) this,
    )

same_given : (o : Option Text) (v : Text) → o ≡ Some v → (t : Text) → o ≡ Some t → t ≡ v
same_given o v h t k = cc

is_code : (ps : List Pair) (g : Grant) → AsksFor ps g → code_read ps g.client ≡ Ok g
unfolding code_read
is_code ps g a =
    let none : first_refusal (code_refusals ps) ≡ Ok tt =
    none_of_four
    (is_other (codes "authorization_code") (value_of (codes "grant_type") ps))
    (is_none (value_of (codes "grant_type") ps))
    (is_none (value_of (codes "code") ps))
    (is_none (value_of (codes "redirect_uri") ps))
    OtherGrant (Missing (codes "grant_type")) (Missing (codes "code")) (Missing (codes "redirect_uri"))
    (is_same (codes "authorization_code") (value_of (codes "grant_type") ps) (same_given (value_of (codes "grant_type") ps) (codes "authorization_code") a.grant_type))
    (ap is_none a.grant_type) (ap is_none a.code) (ap is_none a.redirect) in
    let this : grant_in ps g.client ≡ g = λ i. record {
      client = g.client;
      code = value_is (value_of (codes "code") ps) g.code a.code i;
      redirect = value_is (value_of (codes "redirect_uri") ps) g.redirect a.redirect i;
    } in
    ap (λ r. and_then r (λ _. grant_ok (grant_in ps g.client))) none ∙ ap grant_ok this

-- ---- the request

pub granted : (c : Configuration) (auth body : Option (List ℕ)) (g : Grant) → grant_read c auth body ≡ Ok g → IsGrant c auth body g
unfolding grant_read
granted c auth None g h = absurd (cc)
granted c auth (Some form) g h =
    let ps : List Pair = form_pairs form in
    let client = and_then_ok (client_read c auth ps) (code_read ps) g h in
    let known = client_is c auth ps client.0 client.1 in
    let asks = code_is ps client.0 g client.2 in
    record {
      form = form;
      there = refl;
      once = known.0;
      client = subst (Authenticates c auth ps) asks.1 known.1;
      grant_type = has_value ps (codes "grant_type") (codes "authorization_code") asks.0.grant_type;
      code = has_value ps (codes "code") g.code asks.0.code;
      redirect = has_value ps (codes "redirect_uri") g.redirect asks.0.redirect;
    }

form_granted : (c : Configuration) (auth : Option (List ℕ)) (form : List ℕ) (g : Grant) → client_read c auth (form_pairs form) ≡ Ok g.client → code_read (form_pairs form) g.client ≡ Ok g → grant_read c auth (Some form) ≡ Ok g
unfolding grant_read
form_granted c auth form g h k = ap (λ r. and_then r (code_read (form_pairs form))) h ∙ k

pub is_granted : (c : Configuration) (auth body : Option (List ℕ)) (g : Grant) → IdsDiffer c → IsGrant c auth body g → grant_read c auth body ≡ Ok g
is_granted c auth body g apart i =
    let ps : List Pair = form_pairs i.form in
    ap (grant_read c auth) i.there
    ∙ form_granted c auth i.form g (is_client c auth ps g.client i.once apart i.client)
    (is_code ps g (record {
      grant_type = value_of_pair ps (codes "grant_type", codes "authorization_code") i.once i.grant_type;
      code = value_of_pair ps (codes "code", g.code) i.once i.code;
      redirect = value_of_pair ps (codes "redirect_uri", g.redirect) i.once i.redirect;
    }))

-- ---- what follows

value_text : (form name value : List ℕ) → Has (form_pairs form) (name, value) → IsUtf8 value
unfolding form_pairs
value_text form name value has = (pair_read (raw_pairs form) (name, value) has).1

pub granted_texts : (c : Configuration) (auth body : Option (List ℕ)) (g : Grant) → grant_read c auth body ≡ Ok g → IsUtf8 g.code × IsUtf8 g.redirect
granted_texts c auth body g h =
    let i = granted c auth body g h in
    (value_text i.form (codes "code") g.code i.code, value_text i.form (codes "redirect_uri") g.redirect i.redirect)

-- the client of the grant showed its secret
pub secret_shown : (c : Configuration) (auth body : Option (List ℕ)) (g : Grant) → grant_read c auth body ≡ Ok g
    → (client : Client) × (slice_get c.clients g.client ≡ Some client) × ((form : List ℕ) × (body ≡ Some form) × ((secret : Text) × (has_secret secret client ≡ true) × Shows auth (form_pairs form) (credentials client.id secret)))
secret_shown c auth body g h =
    let i = granted c auth body g h in
    (i.client.client, i.client.there, (i.form, i.there, (i.client.secret, i.client.own, i.client.shows)))
