-- How the roles read the requests that are sent to them.
use Rattle.std.specs.Prelude.{◌≡◌, ◌||◌, ℕ, Bool, Option, Some, is_some, if◌then◌else◌}
use Rattle.sso_base.specs.Words.{Word}
use Rattle.sso_base.specs.declared.http.Ask.{Ask}
use Rattle.sso_base.specs.declared.message.Answered.{Answered as PeerAnswer}
use Rattle.client_registry.specs.Configuration.{Configuration}
use Rattle.client_registry.specs.declared.records.Client.{Client}
use Rattle.client_registry.specs.declared.records.Party.{Party}
use Rattle.client_registry.specs.declared.records.Provider.{Provider}
use Rattle.request_params.specs.declared.params.Params.{Params}
use Rattle.auth_answer.specs.declared.answer.Answer.{Answer}
use Rattle.login_request.specs.Request.{login_params, login_object}
use Rattle.op_exchange.specs.declared.ask.OpAsk.{OpAsk}
use Rattle.op_request.specs.Prepared.{prepared as op_prepared}
use Rattle.rp_exchange.specs.declared.ask.RpAsk.{RpAsk}
use Rattle.rp_request.specs.Prepared.{prepared as rp_prepared, tokens_prepared, info_prepared}
use Rattle.sso_places.specs.declared.types.To.TheVariants as to
use Rattle.sso_places.specs.declared.types.WorldAsk.TheVariants.{Tokens, Info}
use Rattle.web_requests.specs.declared.sent.Sent.{Sent}
use Rattle.web_requests.specs.Sending.{sent}

-- a request is sent to the provider, under this number, and the provider parses it as this
pub record AsksProvider (c : Configuration) (from : ℕ) (o : Option Sent) (asked : OpAsk) : Type 0 where
  pub request : Ask
  pub is : o ≡ Some (sent from to.Provider request)
  pub read : op_prepared c request ≡ asked

-- a request is sent to the party with a number, under this number, and the party parses it as this
pub record AsksParty (c : Configuration) (from n : ℕ) (o : Option Sent) (asked : RpAsk) : Type 0 where
  pub request : Ask
  pub is : o ≡ Some (sent from (to.Party n) request)
  pub read : rp_prepared c n request ≡ asked

-- an answer to the token request of the exchange with this word is passed to the party, which parses it as this
pub record AnswersTokens (c : Configuration) (from n : ℕ) (w : Word) (o : Option Sent) (asked : RpAsk) : Type 0 where
  pub answer : PeerAnswer
  pub is : o ≡ Some (record { from = from; to = to.Party n; ask = Tokens w answer })
  pub read : tokens_prepared c n w answer ≡ asked

-- the same for the UserInfo request
pub record AnswersInfo (from n : ℕ) (w : Word) (o : Option Sent) (asked : RpAsk) : Type 0 where
  pub answer : PeerAnswer
  pub is : o ≡ Some (record { from = from; to = to.Party n; ask = Info w answer })
  pub read : info_prepared w answer ≡ asked

-- the parameters of a login that the provider verifies: with their request object, if the party signs its requests
abbrev pub whole_params : Client → Party → Provider → Word → Word → Params
whole_params client party provider state nonce =
    if party.signed
    then record (login_params client party state nonce) { request = Some (login_object client party provider.issuer state nonce) }
    else login_params client party state nonce

-- an answer has some part, as an answer to any response type does
abbrev pub has_part : Answer → Bool
has_part answer = is_some answer.code || is_some answer.access || is_some answer.id
