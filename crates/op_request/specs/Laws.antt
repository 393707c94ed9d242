-- Laws about the requests that the provider reads. Each is a clause of a function of `law.rt`, which says it in words.
use Rattle.std.specs.Prelude.{◌≡◌, ◌↔◌, ℕ, Bool, true, false, Option, Some}
use Rattle.sso_base.specs.Lists.{Has}
use Rattle.sso_base.specs.Words.{Word, Text, word_of_text}
use Rattle.sso_base.specs.declared.http.Ask.{Ask}
use Rattle.client_registry.specs.declared.records.Client.{Client}
use Rattle.client_registry.specs.Configuration.{Configuration}
use Rattle.client_registry.specs.Numbers.{client_at}
use Rattle.client_registry.specs.Registered.{IsRegistry}
use Rattle.request_params.specs.declared.params.Params.{Params}
use Rattle.request_params.specs.Reading.{HasRequest}
use Rattle.request_params.specs.Merging.{IsMerged}
use Rattle.request_params.specs.Form.{form_of}
use Rattle.auth_request.specs.declared.wish.Wish.{Wish}
use Rattle.auth_request.specs.declared.wish.Verdict.TheVariants as verdict
use Rattle.auth_request.specs.Judgement.{judgement}
use Rattle.request_object.specs.Object.{IsRequestObject}
use Rattle.op_exchange.specs.declared.ask.OpAsk.TheVariants as ask
use Rattle.op_exchange.specs.Fields.{turn_field, agree_field, agree_value}
use Rattle.op_request.specs.declared.routes.Endpoint.TheVariants as endpoint
use Rattle.op_request.specs.PostedForms.{login_names, fields_of, repeats_one, field}
use Rattle.op_request.specs.Prepared.{prepared}
use Rattle.op_request.specs.Routes.{is_login}
use Rattle.op_request.specs.Requests.{IsTo, ShowsPassword, IsTurn, IsWhole, IsGranted}

-- ---- forms

abbrev pub SignedLoginsShowAPassword : Type 0
SignedLoginsShowAPassword =
    (c : Configuration) (request : Ask) (turn : Option Word) (n : ℕ) (browser session : Option Word)
    → prepared c request ≡ ask.Login turn (Some n) browser session → ShowsPassword c (fields_of request.body) n

abbrev pub ShownPasswordsSignLogins : Type 0
ShownPasswordsSignLogins =
    (c : Configuration) (request : Ask) (n : ℕ) → IsRegistry c → IsTo c request endpoint.Login
    → repeats_one login_names (fields_of request.body) ≡ false → ShowsPassword c (fields_of request.body) n
    → prepared c request
    ≡ ask.Login (word_of_text (field turn_field (fields_of request.body))) (Some n) request.first request.second

abbrev pub LoginsAreToldByTheirPath : Type 0
LoginsAreToldByTheirPath =
    (c : Configuration) (request : Ask) (turn : Option Word) (signed : Option ℕ) (browser session : Option Word)
    → prepared c request ≡ ask.Login turn signed browser session → is_login c.prefix request ≡ true

abbrev pub LoginFormsHaveTheirTurn : Type 0
LoginFormsHaveTheirTurn =
    (c : Configuration) (request : Ask) (turn : Option Word) (signed : Option ℕ) (browser session : Option Word)
    → prepared c request ≡ ask.Login turn signed browser session → IsTurn (fields_of request.body) turn

abbrev pub ConsentFormsHaveTheirTurn : Type 0
ConsentFormsHaveTheirTurn =
    (c : Configuration) (request : Ask) (turn : Option Word) (agree : Bool) (browser session : Option Word)
    → prepared c request ≡ ask.Consent turn agree browser session → IsTurn (fields_of request.body) turn

abbrev pub AgreementIsInTheForm : Type 0
AgreementIsInTheForm =
    (c : Configuration) (request : Ask) (turn : Option Word) (agree : Bool) (browser session : Option Word)
    → prepared c request ≡ ask.Consent turn agree browser session
    → (agree ≡ true) ↔ Has (fields_of request.body) (agree_field, agree_value)

-- ---- authorization requests

abbrev pub GrantedWishesAreJudged : Type 0
GrantedWishesAreJudged =
    (c : Configuration) (request : Ask) (wish : Wish) (browser session : Option Word)
    → prepared c request ≡ ask.Authorize (verdict.Grant wish) browser session
    → IsGranted c (form_of request.method request) wish

abbrev pub WholeRequestsAreJudged : Type 0
WholeRequestsAreJudged =
    (c : Configuration) (request : Ask) (beside whole : Params) → IsRegistry c → IsTo c request endpoint.Authorization
    → HasRequest (form_of request.method request) beside → IsWhole c beside whole
    → prepared c request ≡ ask.Authorize (judgement c whole false) request.first request.second

abbrev pub JudgedWishesAreGranted : Type 0
JudgedWishesAreGranted =
    (c : Configuration) (request : Ask) (wish : Wish) → IsRegistry c → IsTo c request endpoint.Authorization
    → IsGranted c (form_of request.method request) wish
    → prepared c request ≡ ask.Authorize (verdict.Grant wish) request.first request.second

abbrev pub RequestsWithBadObjectsAreJudged : Type 0
RequestsWithBadObjectsAreJudged =
    (c : Configuration) (request : Ask) (beside : Params) (n : ℕ) (client : Client) (object : Text) → IsRegistry c
    → IsTo c request endpoint.Authorization → HasRequest (form_of request.method request) beside → client_at c n ≡ Some client
    → beside.client_id ≡ Some client.id → beside.request ≡ Some object
    → ((inside whole : Params) → IsRequestObject client c.provider.issuer object inside → IsMerged beside inside whole → ⊥)
    → prepared c request ≡ ask.Authorize (judgement c beside true) request.first request.second
