-- What a callback holds: what was heard in its form, and what was read of the ID Token in it.
use Rattle.std.proofs.Common.{◌≡◌, ℕ, Bool, true, false, cond, List, Option, Some, None, option_map, Result, Ok, Err, refl, sym, ◌∙◌, ap, subst}
use Rattle.sso_base.specs.Words.{Word, Text}
use Rattle.sso_base.specs.declared.http.Ask.{Ask}
use Rattle.client_registry.specs.declared.records.Client.{Client}
use Rattle.client_registry.specs.Configuration.{Configuration}
use Rattle.client_registry.specs.Numbers.{party_row, party_client}
use Rattle.client_registry.specs.Registered.{IsRegistry}
use Rattle.id_token.specs.declared.claims.IdClaims.{IdClaims}
use Rattle.id_token.specs.declared.no.IdNo.{IdNo}
use Rattle.auth_answer.specs.declared.heard.Heard.{Heard}
use Rattle.auth_answer.specs.declared.no.AnswerNo.{AnswerNo}
use Rattle.auth_answer.specs.Reading.{answer_read, HasAnswer, RefusesAnswer}
use Rattle.auth_answer.proofs.HeardParts.{read-answer, answer-read, answer_refused, refused_answer}
use Rattle.rp_exchange.specs.declared.ask.RpAsk.{RpAsk}
use Rattle.rp_exchange.specs.declared.ask.RpAsk.TheVariants as ask
use Rattle.rp_request.specs.declared.routes.Endpoint.{Endpoint}
use Rattle.rp_request.specs.declared.routes.Endpoint.TheVariants as endpoint
use Rattle.rp_request.specs.Opened.{id_read_for, IsIdTokenFor}
use Rattle.rp_request.specs.Prepared.{callback_asked, wants_page, asked_at, endpoint_at, prepared}
use Rattle.rp_request.specs.Requests.{IsTo, IsOpened}
use Rattle.rp_request.proofs.Opened.{id_read_for-token, token-id_read_for}
use Rattle.rp_request.proofs.Routing.{response_asked}
use Rattle.request_params.specs.Form.{form_of}

abbrev pub IdRead : Type 0
IdRead = Result IdClaims IdNo

-- ---- what was read of a text

opened_at : (client : Client) (text : Text) (r : IdRead) → id_read_for client text ≡ r → IsOpened client (Some text) (Some r)
opened_at client text (Ok claims) is = id_read_for-token client text claims is
opened_at client text (Err why) is = λ claims token. (let read = token-id_read_for client text claims token in cc)

pub opened_text : (client : Client) (text : Text) → IsOpened client (Some text) (Some (id_read_for client text))
opened_text client text = opened_at client text (id_read_for client text) refl

opened_if_there : (client : Client) (o : Option Text) → IsOpened client o (option_map (id_read_for client) o)
opened_if_there client None = tt
opened_if_there client (Some text) = opened_text client text

pub accepted_text : (client : Client) (text : Text) (claims : IdClaims) (id : Option IdRead) → id ≡ Some (id_read_for client text) → IsIdTokenFor client text claims → id ≡ Some (Ok claims)
accepted_text client text claims id is token =
    let S : IdRead → Option IdRead = λ r. Some r in
    is ∙ ap S (token-id_read_for client text claims token)

-- ---- what a callback was made of

record HasHeard (client : Client) (r : Result Heard AnswerNo) (heard : Heard) (id : Option IdRead) : Type 0 where
  response : r ≡ Ok heard
  read : id ≡ option_map (id_read_for client) heard.id

heard_in : (client : Client) (presented : Option Word) (r : Result Heard AnswerNo) (heard : Heard) (id : Option IdRead) (browser : Option Word)
    → callback_asked client presented r ≡ ask.Callback (Ok heard) id browser → HasHeard client r heard id
heard_in client presented (Ok x) heard id browser h =
    let same : x ≡ heard = cc in
    let read : option_map (id_read_for client) x.id ≡ id = cc in
    let O : Heard → Result Heard AnswerNo = λ y. Ok y in
    record { response = ap O same; read = sym read ∙ ap (λ (y : Heard). option_map (id_read_for client) y.id) same }
heard_in client presented (Err why) heard id browser h = absurd (cc)

refused_in : (client : Client) (presented : Option Word) (r : Result Heard AnswerNo) (why : AnswerNo) (id : Option IdRead) (browser : Option Word)
    → callback_asked client presented r ≡ ask.Callback (Err why) id browser → r ≡ Err why
refused_in client presented (Ok x) why id browser h = absurd (cc)
refused_in client presented (Err e) why id browser h =
    let same : e ≡ why = cc in
    let E : AnswerNo → Result Heard AnswerNo = λ y. Err y in
    ap E same

module _ (c : Configuration) (n : ℕ) (request : Ask) where
  abbrev response : List ℕ
  response = form_of request.method request

  no_page : (page : Bool) (asked : RpAsk) (r : Result Heard AnswerNo) (id : Option IdRead) (browser : Option Word) → cond page ask.Fragment asked ≡ ask.Callback r id browser → asked ≡ ask.Callback r id browser
  no_page true asked r id browser h = absurd (cc)
  no_page false asked r id browser h = h

  callback_at : (o : Option Endpoint) (r : Result Heard AnswerNo) (id : Option IdRead) (browser : Option Word)
      → asked_at (party_client c n) (party_row c n).types request o ≡ ask.Callback r id browser → callback_asked (party_client c n) request.first (answer_read response) ≡ ask.Callback r id browser
  callback_at None r id browser h = absurd (cc)
  callback_at (Some endpoint.Login) r id browser h = absurd (cc)
  callback_at (Some endpoint.Home) r id browser h = absurd (cc)
  callback_at (Some endpoint.Leave) r id browser h = absurd (cc)
  callback_at (Some endpoint.Logout) r id browser h = absurd (cc)
  callback_at (Some endpoint.Redirection) r id browser h =
      no_page (wants_page (party_row c n).types request) (callback_asked (party_client c n) request.first (answer_read response)) r id browser h

  callback_of : (r : Result Heard AnswerNo) (id : Option IdRead) (browser : Option Word) → prepared c n request ≡ ask.Callback r id browser
      → callback_asked (party_client c n) request.first (answer_read response) ≡ ask.Callback r id browser
  unfolding prepared
  callback_of r id browser h = callback_at (endpoint_at c n request) r id browser h

  made_of : (heard : Heard) (id : Option IdRead) (browser : Option Word) → prepared c n request ≡ ask.Callback (Ok heard) id browser → HasHeard (party_client c n) (answer_read response) heard id
  made_of heard id browser h = heard_in (party_client c n) request.first (answer_read response) heard id browser (callback_of (Ok heard) id browser h)

  pub has_answer : (heard : Heard) (id : Option IdRead) (browser : Option Word) → prepared c n request ≡ ask.Callback (Ok heard) id browser → HasAnswer response heard
  has_answer heard id browser h = read-answer response heard (made_of heard id browser h).response

  pub hears_answer : (heard : Heard) → IsRegistry c → IsTo c n request endpoint.Redirection → wants_page (party_row c n).types request ≡ false → HasAnswer response heard
      → prepared c n request ≡ ask.Callback (Ok heard) (option_map (id_read_for (party_client c n)) heard.id) request.first
  hears_answer heard r to no_page has =
      response_asked c n request r to no_page ∙ ap (callback_asked (party_client c n) request.first) (answer-read response heard has)

  pub refuses_answer : (why : AnswerNo) (id : Option IdRead) (browser : Option Word) → prepared c n request ≡ ask.Callback (Err why) id browser → RefusesAnswer response why
  refuses_answer why id browser h =
      answer_refused response why (refused_in (party_client c n) request.first (answer_read response) why id browser (callback_of (Err why) id browser h))

  pub answer_refuses : (why : AnswerNo) → IsRegistry c → IsTo c n request endpoint.Redirection → wants_page (party_row c n).types request ≡ false → RefusesAnswer response why → prepared c n request ≡ ask.Callback (Err why) None request.first
  answer_refuses why r to no_page refuses =
      response_asked c n request r to no_page ∙ ap (callback_asked (party_client c n) request.first) (refused_answer response why refuses)

  pub callback_opened : (heard : Heard) (id : Option IdRead) (browser : Option Word) → prepared c n request ≡ ask.Callback (Ok heard) id browser → IsOpened (party_client c n) heard.id id
  callback_opened heard id browser h =
      subst (IsOpened (party_client c n) heard.id) (sym (made_of heard id browser h).read) (opened_if_there (party_client c n) heard.id)

  pub callback_accepted : (heard : Heard) (id : Option IdRead) (browser : Option Word) (text : Text) (claims : IdClaims) → prepared c n request ≡ ask.Callback (Ok heard) id browser
      → heard.id ≡ Some text → IsIdTokenFor (party_client c n) text claims → id ≡ Some (Ok claims)
  callback_accepted heard id browser text claims h there token =
      accepted_text (party_client c n) text claims id ((made_of heard id browser h).read ∙ ap (option_map (id_read_for (party_client c n))) there) token
