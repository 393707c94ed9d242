-- Laws about the requests and responses that a relying party reads. Each is a clause of a function of `law.rt`, which says it in words.
use Rattle.std.specs.Prelude.{◌≡◌, ℕ, true, false, Option, Some, None, option_map, Result, Ok, Err}
use Rattle.sso_base.specs.Words.{Word, Text}
use Rattle.sso_base.specs.declared.http.Ask.{Ask}
use Rattle.sso_base.specs.declared.message.Answered.{Answered}
use Rattle.client_registry.specs.Configuration.{Configuration}
use Rattle.client_registry.specs.Numbers.{party_row, party_client}
use Rattle.client_registry.specs.Registered.{IsRegistry}
use Rattle.request_params.specs.Form.{form_of, posted}
use Rattle.id_token.specs.declared.claims.IdClaims.{IdClaims}
use Rattle.id_token.specs.declared.no.IdNo.{IdNo}
use Rattle.auth_answer.specs.declared.heard.Heard.{Heard}
use Rattle.auth_answer.specs.declared.no.AnswerNo.{AnswerNo}
use Rattle.auth_answer.specs.Reading.{HasAnswer, RefusesAnswer}
use Rattle.token_endpoint.specs.declared.reading.Tokens.{Tokens}
use Rattle.token_endpoint.specs.declared.no.TokensNo.{TokensNo}
use Rattle.token_endpoint.specs.Answer.{tokens_read, HasTokens}
use Rattle.userinfo.specs.declared.no.InfoNo.{InfoNo}
use Rattle.userinfo.specs.Answer.{info_read, IsUserInfo}
use Rattle.logout_token.specs.declared.claims.LogoutClaims.{LogoutClaims}
use Rattle.logout_token.specs.declared.no.LogoutNo.{LogoutNo}
use Rattle.rp_exchange.specs.declared.ask.RpAsk.TheVariants as ask
use Rattle.rp_request.specs.declared.routes.Endpoint.TheVariants as endpoint
use Rattle.rp_request.specs.Prepared.{wants_page, logout_token_in, prepared, tokens_prepared, info_prepared}
use Rattle.rp_request.specs.Opened.{id_read_for, logout_read_for, IsIdTokenFor, IsLogoutTokenFor}
use Rattle.rp_request.specs.Requests.{IsTo, IsOpened, IsLogoutOpened}

-- ---- authorization responses

abbrev pub FragmentPagesAreWanted : Type 0
FragmentPagesAreWanted =
    (c : Configuration) (n : ℕ) (request : Ask) → prepared c n request ≡ ask.Fragment
    → IsTo c n request endpoint.Redirection × (wants_page (party_row c n).types request ≡ true)

abbrev pub WantedPagesAreAskedFor : Type 0
WantedPagesAreAskedFor =
    (c : Configuration) (n : ℕ) (request : Ask) → IsRegistry c → IsTo c n request endpoint.Redirection
    → wants_page (party_row c n).types request ≡ true → prepared c n request ≡ ask.Fragment

abbrev pub ReadResponsesAreInTheForm : Type 0
ReadResponsesAreInTheForm =
    (c : Configuration) (n : ℕ) (request : Ask) (heard : Heard) (id : Option (Result IdClaims IdNo)) (browser : Option Word)
    → prepared c n request ≡ ask.Callback (Ok heard) id browser → HasAnswer (form_of request.method request) heard

abbrev pub ResponsesInTheFormAreRead : Type 0
ResponsesInTheFormAreRead =
    (c : Configuration) (n : ℕ) (request : Ask) (heard : Heard) → IsRegistry c → IsTo c n request endpoint.Redirection
    → wants_page (party_row c n).types request ≡ false → HasAnswer (form_of request.method request) heard
    → prepared c n request ≡ ask.Callback (Ok heard) (option_map (id_read_for (party_client c n)) heard.id) request.first

abbrev pub RefusedResponsesAreInTheForm : Type 0
RefusedResponsesAreInTheForm =
    (c : Configuration) (n : ℕ) (request : Ask) (why : AnswerNo) (id : Option (Result IdClaims IdNo)) (browser : Option Word)
    → prepared c n request ≡ ask.Callback (Err why) id browser → RefusesAnswer (form_of request.method request) why

abbrev pub BadFormsAreRefused : Type 0
BadFormsAreRefused =
    (c : Configuration) (n : ℕ) (request : Ask) (why : AnswerNo) → IsRegistry c → IsTo c n request endpoint.Redirection
    → wants_page (party_row c n).types request ≡ false → RefusesAnswer (form_of request.method request) why
    → prepared c n request ≡ ask.Callback (Err why) None request.first

abbrev pub IdTokensAreOpenedByASecret : Type 0
IdTokensAreOpenedByASecret =
    (c : Configuration) (n : ℕ) (request : Ask) (heard : Heard) (id : Option (Result IdClaims IdNo)) (browser : Option Word)
    → prepared c n request ≡ ask.Callback (Ok heard) id browser → IsOpened (party_client c n) heard.id id

abbrev pub IdTokensOfASecretAreAccepted : Type 0
IdTokensOfASecretAreAccepted =
    (c : Configuration) (n : ℕ) (request : Ask) (heard : Heard) (id : Option (Result IdClaims IdNo)) (browser : Option Word)
    (text : Text) (claims : IdClaims)
    → prepared c n request ≡ ask.Callback (Ok heard) id browser → heard.id ≡ Some text
    → IsIdTokenFor (party_client c n) text claims → id ≡ Some (Ok claims)

-- ---- token responses

abbrev pub ReadTokensAreInTheResponse : Type 0
ReadTokensAreInTheResponse =
    (c : Configuration) (n : ℕ) (pending w : Word) (answer : Answered) (tokens : Tokens) (id : Option (Result IdClaims IdNo))
    → tokens_prepared c n pending answer ≡ ask.Tokens w (Ok tokens) id → (w ≡ pending) × HasTokens answer tokens

abbrev pub TokensInTheResponseAreRead : Type 0
TokensInTheResponseAreRead =
    (c : Configuration) (n : ℕ) (pending : Word) (answer : Answered) (tokens : Tokens) → HasTokens answer tokens
    → tokens_prepared c n pending answer ≡ ask.Tokens pending (Ok tokens) (Some (id_read_for (party_client c n) tokens.id))

abbrev pub BadTokenResponsesAreRefused : Type 0
BadTokenResponsesAreRefused =
    (c : Configuration) (n : ℕ) (pending : Word) (answer : Answered) (why : TokensNo) → tokens_read answer ≡ Err why
    → tokens_prepared c n pending answer ≡ ask.Tokens pending (Err why) None

abbrev pub IdTokensOfTokenResponsesAreOpened : Type 0
IdTokensOfTokenResponsesAreOpened =
    (c : Configuration) (n : ℕ) (pending w : Word) (answer : Answered) (tokens : Tokens) (id : Option (Result IdClaims IdNo))
    → tokens_prepared c n pending answer ≡ ask.Tokens w (Ok tokens) id → IsOpened (party_client c n) (Some tokens.id) id

abbrev pub IdTokensOfTokenResponsesAreAccepted : Type 0
IdTokensOfTokenResponsesAreAccepted =
    (c : Configuration) (n : ℕ) (pending w : Word) (answer : Answered) (tokens : Tokens) (id : Option (Result IdClaims IdNo))
    (claims : IdClaims)
    → tokens_prepared c n pending answer ≡ ask.Tokens w (Ok tokens) id → IsIdTokenFor (party_client c n) tokens.id claims
    → id ≡ Some (Ok claims)

-- ---- UserInfo responses

abbrev pub ReadSubjectsAreInTheResponse : Type 0
ReadSubjectsAreInTheResponse =
    (pending w : Word) (answer : Answered) (sub : Text) → info_prepared pending answer ≡ ask.Info w (Ok sub)
    → (w ≡ pending) × IsUserInfo answer sub

abbrev pub BadUserInfoResponsesAreRefused : Type 0
BadUserInfoResponsesAreRefused =
    (pending : Word) (answer : Answered) (why : InfoNo) → info_read answer ≡ Err why
    → info_prepared pending answer ≡ ask.Info pending (Err why)

-- ---- logout requests

abbrev pub LogoutRequestsAreRead : Type 0
LogoutRequestsAreRead =
    (c : Configuration) (n : ℕ) (request : Ask) → IsRegistry c → IsTo c n request endpoint.Logout
    → prepared c n request ≡ ask.Logout (logout_read_for (party_client c n) (logout_token_in (posted request.body)))

abbrev pub LogoutTokensAreOpenedByASecret : Type 0
LogoutTokensAreOpenedByASecret =
    (c : Configuration) (n : ℕ) (request : Ask) (claims : Result LogoutClaims LogoutNo)
    → prepared c n request ≡ ask.Logout claims
    → IsLogoutOpened (party_client c n) (logout_token_in (posted request.body)) claims

abbrev pub LogoutTokensOfASecretAreAccepted : Type 0
LogoutTokensOfASecretAreAccepted =
    (c : Configuration) (n : ℕ) (request : Ask) (claims : LogoutClaims) → IsRegistry c → IsTo c n request endpoint.Logout
    → IsLogoutTokenFor (party_client c n) (logout_token_in (posted request.body)) claims
    → prepared c n request ≡ ask.Logout (Ok claims)
