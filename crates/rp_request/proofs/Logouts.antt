-- What a logout request asks: what was read of the logout token in its form.
use Rattle.std.proofs.Common.{◌≡◌, ℕ, Bool, true, false, cond, Option, Some, None, Result, Ok, Err, ◌∙◌, ap}
use Rattle.sso_base.specs.Words.{Text}
use Rattle.sso_base.specs.declared.http.Ask.{Ask}
use Rattle.client_registry.specs.declared.records.Client.{Client}
use Rattle.client_registry.specs.Configuration.{Configuration}
use Rattle.client_registry.specs.Numbers.{party_row, party_client}
use Rattle.client_registry.specs.Registered.{IsRegistry}
use Rattle.logout_token.specs.declared.claims.LogoutClaims.{LogoutClaims}
use Rattle.logout_token.specs.declared.no.LogoutNo.{LogoutNo}
use Rattle.auth_answer.specs.declared.heard.Heard.{Heard}
use Rattle.auth_answer.specs.declared.no.AnswerNo.{AnswerNo}
use Rattle.auth_answer.specs.Reading.{answer_read}
use Rattle.rp_exchange.specs.declared.ask.RpAsk.{RpAsk}
use Rattle.rp_exchange.specs.declared.ask.RpAsk.TheVariants as ask
use Rattle.rp_request.specs.declared.routes.Endpoint.{Endpoint}
use Rattle.rp_request.specs.declared.routes.Endpoint.TheVariants as endpoint
use Rattle.rp_request.specs.Opened.{logout_read_for, IsLogoutTokenFor}
use Rattle.rp_request.specs.Prepared.{callback_asked, wants_page, logout_token_in, asked_at, endpoint_at, prepared}
use Rattle.rp_request.specs.Requests.{IsTo, IsLogoutOpened}
use Rattle.rp_request.proofs.Opened.{logout_read_for-token, token-logout_read_for}
use Rattle.rp_request.proofs.Routing.{prepared_at}
use Rattle.request_params.specs.Form.{form_of, posted}

abbrev LogoutRead : Type 0
LogoutRead = Result LogoutClaims LogoutNo

opened_at : (client : Client) (text : Text) (r : LogoutRead) → logout_read_for client text ≡ r → IsLogoutOpened client text r
opened_at client text (Ok claims) is = logout_read_for-token client text claims is
opened_at client text (Err why) is = λ claims token. (let read = token-logout_read_for client text claims token in cc)

same_claims : (r claims : LogoutRead) → ask.Logout r ≡ ask.Logout claims → r ≡ claims
same_claims r claims h = cc

module _ (c : Configuration) (n : ℕ) (request : Ask) where
  abbrev token : Text
  token = logout_token_in (posted request.body)

  no_logout_heard : (client : Client) (r : Result Heard AnswerNo) (claims : LogoutRead) → ¬ (callback_asked client request.first r ≡ ask.Logout claims)
  no_logout_heard client (Ok heard) claims = λ h. cc
  no_logout_heard client (Err why) claims = λ h. cc

  no_logout_there : (page : Bool) (client : Client) (r : Result Heard AnswerNo) (claims : LogoutRead) → ¬ (cond page ask.Fragment (callback_asked client request.first r) ≡ ask.Logout claims)
  no_logout_there true client r claims = λ h. cc
  no_logout_there false client r claims = no_logout_heard client r claims

  logout_at : (o : Option Endpoint) (claims : LogoutRead) → asked_at (party_client c n) (party_row c n).types request o ≡ ask.Logout claims → logout_read_for (party_client c n) token ≡ claims
  logout_at None claims h = absurd (cc)
  logout_at (Some endpoint.Login) claims h = absurd (cc)
  logout_at (Some endpoint.Home) claims h = absurd (cc)
  logout_at (Some endpoint.Leave) claims h = absurd (cc)
  logout_at (Some endpoint.Redirection) claims h =
      absurd (no_logout_there (wants_page (party_row c n).types request) (party_client c n) (answer_read (form_of request.method request)) claims h)
  logout_at (Some endpoint.Logout) claims h = same_claims (logout_read_for (party_client c n) token) claims h

  logout_of : (claims : LogoutRead) → prepared c n request ≡ ask.Logout claims → logout_read_for (party_client c n) token ≡ claims
  unfolding prepared
  logout_of claims h = logout_at (endpoint_at c n request) claims h

  pub logout_opened : (claims : LogoutRead) → prepared c n request ≡ ask.Logout claims → IsLogoutOpened (party_client c n) token claims
  logout_opened claims h = opened_at (party_client c n) token claims (logout_of claims h)

  pub logout_reads : IsRegistry c → IsTo c n request endpoint.Logout → prepared c n request ≡ ask.Logout (logout_read_for (party_client c n) token)
  logout_reads r to = prepared_at c n request endpoint.Logout r to

  pub logout_accepted : (claims : LogoutClaims) → IsRegistry c → IsTo c n request endpoint.Logout → IsLogoutTokenFor (party_client c n) token claims → prepared c n request ≡ ask.Logout (Ok claims)
  logout_accepted claims r to is =
      let L : LogoutRead → RpAsk = λ read. ask.Logout read in
      logout_reads r to ∙ ap L (token-logout_read_for (party_client c n) token claims is)
