-- What is prepared is an ask that requests and answers give.
use Rattle.std.proofs.Common.{◌≡◌, ℕ, List, Bool, true, false, cond, ◌&&◌, Option, Some, None, option_map, Result, Ok, Err, refl, ap}
use Rattle.std.specs.Prelude.{IfErr}
use Rattle.sso_base.specs.Words.{Word, Text}
use Rattle.sso_base.specs.declared.http.Ask.{Ask}
use Rattle.sso_base.specs.declared.message.Answered.{Answered}
use Rattle.client_registry.specs.declared.records.Client.{Client}
use Rattle.client_registry.specs.Configuration.{Configuration}
use Rattle.client_registry.specs.Numbers.{party_row, party_client}
use Rattle.client_keys.specs.Opening.{opening}
use Rattle.auth_answer.specs.declared.heard.Heard.{Heard}
use Rattle.auth_answer.specs.declared.no.AnswerNo.{AnswerNo}
use Rattle.auth_answer.specs.declared.no.AnswerNo.TheVariants as answer_no
use Rattle.auth_answer.specs.Reading.{answer_read}
use Rattle.auth_answer.proofs.HeardParts.{answer_refused}
use Rattle.token_endpoint.specs.declared.reading.Tokens.{Tokens}
use Rattle.token_endpoint.specs.declared.no.TokensNo.{TokensNo}
use Rattle.token_endpoint.specs.Answer.{tokens_read}
use Rattle.oidc_words.specs.declared.response_types.Types.{Types}
use Rattle.rp_exchange.specs.declared.ask.RpAsk.{RpAsk}
use Rattle.rp_exchange.specs.declared.ask.RpAsk.TheVariants as ask
use Rattle.rp_exchange.specs.Asks.{is_read_of, is_tokens_refusal, is_prepared}
use Rattle.rp_request.specs.declared.routes.Endpoint.{Endpoint}
use Rattle.rp_request.specs.declared.routes.Endpoint.TheVariants as endpoint
use Rattle.rp_request.specs.Opened.{id_read_for}
use Rattle.rp_request.specs.Prepared.{callback_asked, wants_page, logout_token_in, asked_at, endpoint_at, prepared, tokens_asked, tokens_prepared, info_prepared}
use Rattle.rp_request.proofs.Refused.{id_is_read, tokens_refused, info_is_read, logout_is_read}
use Rattle.request_params.specs.Form.{form_of, posted}

read_if_there : (client : Client) (o : Option Text) → is_read_of o (option_map (id_read_for client) o) ≡ true
read_if_there client None = refl
read_if_there client (Some text) = id_is_read (opening client text) text

callback_prepared : (client : Client) (browser : Option Word) (form : List ℕ) (r : Result Heard AnswerNo) → answer_read form ≡ r → is_prepared (callback_asked client browser r) ≡ true
callback_prepared client browser form (Ok heard) is = read_if_there client heard.id
callback_prepared client browser form (Err (answer_no.Twice name)) is = refl
callback_prepared client browser form (Err answer_no.NoMemory) is = absurd (answer_refused form answer_no.NoMemory is)

redirected_prepared : (page : Bool) (asked : RpAsk) → is_prepared asked ≡ true → is_prepared (cond page ask.Fragment asked) ≡ true
redirected_prepared true asked h = refl
redirected_prepared false asked h = h

prepared_at : (client : Client) (types : Types) (request : Ask) (o : Option Endpoint) → is_prepared (asked_at client types request o) ≡ true
prepared_at client types request None = refl
prepared_at client types request (Some endpoint.Login) = refl
prepared_at client types request (Some endpoint.Home) = refl
prepared_at client types request (Some endpoint.Redirection) =
    let form = form_of request.method request in
    redirected_prepared (wants_page types request) (callback_asked client request.first (answer_read form)) (callback_prepared client request.first form (answer_read form) refl)
prepared_at client types request (Some endpoint.Leave) = refl
prepared_at client types request (Some endpoint.Logout) =
    let token = logout_token_in (posted request.body) in
    logout_is_read (opening client token) token

pub always_prepared : (c : Configuration) (n : ℕ) (request : Ask) → is_prepared (prepared c n request) ≡ true
unfolding prepared
always_prepared c n request = prepared_at (party_client c n) (party_row c n).types request (endpoint_at c n request)

answer_prepared : (client : Client) (pending : Word) (r : Result Tokens TokensNo) → IfErr r (λ e. is_tokens_refusal e ≡ true) → is_prepared (tokens_asked client pending r) ≡ true
answer_prepared client pending (Ok tokens) h = id_is_read (opening client tokens.id) tokens.id
answer_prepared client pending (Err why) h = ap (λ b. b && true) h

pub always_answered : (c : Configuration) (n : ℕ) (pending : Word) (answer : Answered) → is_prepared (tokens_prepared c n pending answer) ≡ true
unfolding tokens_prepared
always_answered c n pending answer = answer_prepared (party_client c n) pending (tokens_read answer) (tokens_refused answer)

pub always_told : (pending : Word) (answer : Answered) → is_prepared (info_prepared pending answer) ≡ true
unfolding info_prepared
always_told pending answer = info_is_read answer
