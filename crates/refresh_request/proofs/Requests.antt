-- A form that is read as a refresh request is one.
use Rattle.std.proofs.Common.{◌≡◌, ℕ, List, [], codes, Option, Some, unwrap_or, Result, Ok, sym, ap, ◌∙◌, subst}
use Rattle.sso_base.specs.Words.{Text}
use Rattle.sso_base.specs.Refusals.{first_refusal, NoneHolds}
use Rattle.sso_base.proofs.Refusals.{none_holds, and_then_ok, one_value}
use Rattle.client_registry.specs.Configuration.{Configuration}
use Rattle.request_params.specs.Form.{Pair, form_pairs}
use Rattle.request_params.specs.Reading.{value_of}
use Rattle.request_params.proofs.Values.{has_value}
use Rattle.token_endpoint.specs.declared.no.GrantNo.{GrantNo}
use Rattle.token_endpoint.specs.Request.{client_asked}
use Rattle.token_endpoint.specs.Granted.{IsOfClient}
use Rattle.token_endpoint.proofs.Lookups.{there_of}
use Rattle.token_endpoint.proofs.Authenticating.{not_other}
use Rattle.token_endpoint.proofs.OfClients.{of_client}
use Rattle.refresh_answer.specs.declared.asks.RefreshGrant.{RefreshGrant}
use Rattle.refresh_request.specs.Reading.{token_refusals, token_in, token_read, form_in, form_read, refresh_read, IsRefresh}

abbrev grant_ok : RefreshGrant → Result RefreshGrant GrantNo
grant_ok g = Ok g

value_is : (o : Option Text) (v : Text) → o ≡ Some v → unwrap_or o [] ≡ v
value_is o v h = ap (λ p. unwrap_or p []) h

-- the parameters are those of this request
record AsksFor (ps : List Pair) (g : RefreshGrant) : Type 0 where
  grant_type : value_of (codes "grant_type") ps ≡ Some (codes "refresh_token")
  token : value_of (codes "refresh_token") ps ≡ Some g.token

token_is : (ps : List Pair) (n : ℕ) (g : RefreshGrant) → token_read ps n ≡ Ok g → AsksFor ps g × (n ≡ g.client)
unfolding token_read
token_is ps n g h =
    let passed = and_then_ok (first_refusal (token_refusals ps)) (λ _. grant_ok (token_in ps n)) g h in
    let tests : NoneHolds (token_refusals ps) = none_holds (token_refusals ps) passed.1 in
    let this : token_in ps n ≡ g = one_value GrantNo (token_in ps n) g passed.2 in
    let kind = there_of (value_of (codes "grant_type") ps) tests.1.0 in
    let token = there_of (value_of (codes "refresh_token") ps) tests.1.1.0 in
    let right : kind.0 ≡ codes "refresh_token" = not_other (codes "refresh_token") (value_of (codes "grant_type") ps) tests.0 kind.0 kind.1 in (
      record {
        grant_type = kind.1 ∙ ap Some right;
        token = token.1 ∙ ap Some (sym (value_is (value_of (codes "refresh_token") ps) token.0 token.1) ∙ ap (λ (x : RefreshGrant). x.token) this);
      },
      ap (λ (x : RefreshGrant). x.client) this,
    )

pub is_refresh_of : (c : Configuration) (auth body : Option (List ℕ)) (g : RefreshGrant) → refresh_read c auth body ≡ Ok g → IsRefresh c auth body g
unfolding refresh_read
is_refresh_of c auth body g h =
    let ps : List Pair = form_pairs (form_in body) in
    let client = and_then_ok (client_asked c auth body) (form_read (form_in body)) g h in
    let asks = token_is ps client.0 g client.2 in
    record {
      client = subst (IsOfClient c auth body) asks.1 (of_client c auth body client.0 client.1);
      grant_type = has_value ps (codes "grant_type") (codes "refresh_token") asks.0.grant_type;
      token = has_value ps (codes "refresh_token") g.token asks.0.token;
    }
