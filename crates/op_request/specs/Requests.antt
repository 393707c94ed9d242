-- Requests to the provider and their values, stated literally.
use Rattle.std.specs.Prelude.{◌≡◌, ◌⊎◌, ℕ, false, true, List, [], ◌++◌, Option, Some, None}
use Rattle.sso_base.specs.Lists.{Has}
use Rattle.sso_base.specs.Words.{Word, Text, IsWord, word_text}
use Rattle.sso_base.specs.declared.http.Ask.{Ask}
use Rattle.hmac256.specs.Hmac.{proof_of}
use Rattle.sso_base.specs.Texts.{has_text}
use Rattle.client_registry.specs.declared.records.User.{User}
use Rattle.client_registry.specs.declared.records.Client.{Client}
use Rattle.client_registry.specs.Configuration.{Configuration}
use Rattle.client_registry.specs.Numbers.{user_at, client_at}
use Rattle.request_params.specs.declared.params.Params.{Params}
use Rattle.request_params.specs.Form.{Pair, form_of}
use Rattle.request_params.specs.Reading.{kept_pairs, HasRequest, RepeatsFirst, StandsTwice}
use Rattle.request_params.specs.Merging.{IsMerged}
use Rattle.auth_request.specs.declared.wish.Wish.{Wish}
use Rattle.auth_request.specs.declared.wish.Verdict.TheVariants.{Grant}
use Rattle.auth_request.specs.Judgement.{judgement}
use Rattle.request_object.specs.Object.{IsRequestObject}
use Rattle.token_endpoint.specs.Granted.{HasNo}
use Rattle.op_exchange.specs.declared.ask.OpAsk.{OpAsk}
use Rattle.op_exchange.specs.declared.ask.OpAsk.TheVariants as ask
use Rattle.op_exchange.specs.Fields.{turn_field, user_field, password_field}
use Rattle.op_request.specs.declared.routes.Endpoint.{Endpoint}
use Rattle.op_request.specs.declared.routes.Endpoint.TheVariants as endpoint
use Rattle.op_request.specs.Routes.{routes_of}
use Rattle.op_request.specs.PostedForms.{login_names, consent_names, fields_of}

-- ---- endpoints

-- the request is to this endpoint: its path is the provider's, followed by a path that is listed for its method
pub record IsTo (c : Configuration) (request : Ask) (e : Endpoint) : Type 0 where
  pub rest : Text
  pub path : request.path ≡ c.prefix ++ rest
  pub listed : Has (routes_of request.method) (rest, e)

-- the endpoint to which a value belongs, except `Twice`
abbrev pub own_endpoint : OpAsk → Option Endpoint
own_endpoint (ask.Authorize verdict browser session) = Some endpoint.Authorization
own_endpoint (ask.Login turn signed browser session) = Some endpoint.Login
own_endpoint (ask.Consent turn agree browser session) = Some endpoint.Consent
own_endpoint (ask.Token grant) = Some endpoint.Token
own_endpoint (ask.Info bearer) = Some endpoint.UserInfo
own_endpoint (ask.SignOut session) = Some endpoint.SignOut
own_endpoint ask.Metadata = Some endpoint.Metadata
own_endpoint ask.Keys = Some endpoint.Keys
own_endpoint ask.Twice = None
own_endpoint ask.NotHere = None

-- ---- fields of a form

-- one of the names occurs twice
pub record RepeatsName (names : List Text) (fields : List Pair) : Type 0 where
  pub name : Text
  pub listed : has_text name names ≡ true
  pub twice : StandsTwice name fields

-- the value is that of a field of this name, or it is empty and there is no such field
abbrev pub IsField : List Pair → Text → Text → Type 0
IsField fields name value = Has fields (name, value) ⊎ (HasNo fields name × (value ≡ []))

-- the form has the id of the user with this number, and a password whose proof is the user's (RFC 8018, 5.2)
pub record ShowsPassword (c : Configuration) (fields : List Pair) (number : ℕ) : Type 0 where
  pub user : User
  pub there : user_at c number ≡ Some user
  pub id : IsField fields user_field user.id
  pub password : Text
  pub shown : IsField fields password_field password
  pub proved : proof_of password user.salt user.rounds ≡ user.proof

-- the word is that of the form's field `turn`, if that is the text of a word
abbrev pub IsTurn : List Pair → Option Word → Type 0
IsTurn fields (Some w) = Has fields (turn_field, word_text w) × IsWord w
IsTurn fields None = (w : Word) → IsWord w → ¬ Has fields (turn_field, word_text w)

-- ---- names that occur twice

-- the request posts a form to this endpoint, and one of the names occurs twice in it
pub record RepeatsField (c : Configuration) (request : Ask) (e : Endpoint) (names : List Text) : Type 0 where
  pub to : IsTo c request e
  pub repeats : RepeatsName names (fields_of request.body)

-- the request is an authorization request, and a parameter occurs twice in it with values
pub record RepeatsParameter (c : Configuration) (request : Ask) : Type 0 where
  pub to : IsTo c request endpoint.Authorization
  pub name : Text
  pub repeats : RepeatsFirst (kept_pairs (form_of request.method request)) name

abbrev pub RepeatsAName : Configuration → Ask → Type 0
RepeatsAName c request =
    RepeatsParameter c request
    ⊎ (RepeatsField c request endpoint.Login login_names ⊎ RepeatsField c request endpoint.Consent consent_names)

-- ---- an authorization request

-- the client with this number has the request's `client_id`, and the request has a request object of this client for this
-- provider, with these parameters (OpenID Connect Core 1.0, 6.1)
pub record HasObject (c : Configuration) (beside inside : Params) : Type 0 where
  pub object : Text
  pub stands : beside.request ≡ Some object
  pub number : ℕ
  pub client : Client
  pub there : client_at c number ≡ Some client
  pub named : beside.client_id ≡ Some client.id
  pub is_object : IsRequestObject client c.provider.issuer object inside

-- the merged parameters of the request and its request object; those of the request if it has no object
abbrev pub IsWhole : Configuration → Params → Params → Type 0
IsWhole c beside whole = ((beside.request ≡ None) × (whole ≡ beside)) ⊎ ((inside : Params) × HasObject c beside inside × IsMerged beside inside whole)

-- the form is a request whose parameters, merged with those of its object, are granted
pub record IsGranted (c : Configuration) (form : List ℕ) (wish : Wish) : Type 0 where
  pub beside : Params
  pub read : HasRequest form beside
  pub whole : Params
  pub is_whole : IsWhole c beside whole
  pub granted : judgement c whole false ≡ Grant wish

-- ---- cookies

-- the value has the words of the request's cookies: the first is the browser's, the second the session's
abbrev pub HasCookies : Ask → OpAsk → Type 0
HasCookies request (ask.Authorize verdict browser session) = (browser ≡ request.first) × (session ≡ request.second)
HasCookies request (ask.Login turn signed browser session) = (browser ≡ request.first) × (session ≡ request.second)
HasCookies request (ask.Consent turn agree browser session) = (browser ≡ request.first) × (session ≡ request.second)
HasCookies request (ask.SignOut session) = session ≡ request.second
HasCookies request other = Unit {0}
