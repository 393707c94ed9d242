-- Each prepared ask, by what was read for it.
use Rattle.std.proofs.Common.{◌≡◌, ◌⊎◌, inl, inr, ℕ, List, Bool, true, false, cond, Option, Some, None, Result, Ok, Err, refl, sym, ap, ◌∙◌, subst}
use Rattle.std.specs.Str.{bytes_eq}
use Rattle.sso_base.specs.Words.{Word, Text, word_of_text}
use Rattle.sso_base.specs.declared.http.Ask.{Ask}
use Rattle.client_registry.specs.Configuration.{Configuration}
use Rattle.request_params.specs.declared.params.Params.{Params}
use Rattle.request_params.specs.declared.no.AskNo.{AskNo}
use Rattle.request_params.specs.Reading.{request_read}
use Rattle.request_params.specs.Form.{form_of}
use Rattle.auth_request.specs.declared.wish.Verdict.{Verdict}
use Rattle.token_endpoint.specs.Request.{grant_read}
use Rattle.op_exchange.specs.declared.ask.OpAsk.{OpAsk}
use Rattle.op_exchange.specs.declared.ask.OpAsk.TheVariants as ask
use Rattle.op_exchange.specs.Fields.{turn_field, user_field, password_field, agree_field, agree_value}
use Rattle.op_request.specs.declared.routes.Endpoint.{Endpoint}
use Rattle.op_request.specs.declared.routes.Endpoint.TheVariants as endpoint
use Rattle.op_request.specs.Routes.{endpoint_asked, is_login_endpoint, is_login}
use Rattle.op_request.specs.PostedForms.{login_names, consent_names, fields_of, repeats_one, field}
use Rattle.op_request.specs.Prepared.{judged, signed_user, authorization_asked, asked_at, prepared}
use Rattle.op_request.specs.Requests.{own_endpoint, HasCookies}

module _ (c : Configuration) (request : Ask) where
  abbrev pub parameters : Result Params AskNo
  parameters = request_read (form_of request.method request)

  pub record LedToVerdict (v : Verdict) : Type 0 where
    pub asked : endpoint_asked c.prefix request ≡ Some endpoint.Authorization
    pub params : Params
    pub read : parameters ≡ Ok params
    pub verdict : v ≡ judged c params

  pub record LedToLogin (turn : Option Word) (signed : Option ℕ) : Type 0 where
    pub asked : endpoint_asked c.prefix request ≡ Some endpoint.Login
    pub once : repeats_one login_names (fields_of request.body) ≡ false
    pub turn_is : turn ≡ word_of_text (field turn_field (fields_of request.body))
    pub signed_is : signed ≡ signed_user c (field user_field (fields_of request.body)) (field password_field (fields_of request.body))

  pub record LedToConsent (turn : Option Word) (agree : Bool) : Type 0 where
    pub asked : endpoint_asked c.prefix request ≡ Some endpoint.Consent
    pub once : repeats_one consent_names (fields_of request.body) ≡ false
    pub turn_is : turn ≡ word_of_text (field turn_field (fields_of request.body))
    pub agree_is : agree ≡ bytes_eq (field agree_field (fields_of request.body)) agree_value

  pub record Refused (e : Endpoint) (names : List Text) : Type 0 where
    pub asked : endpoint_asked c.prefix request ≡ Some e
    pub twice : repeats_one names (fields_of request.body) ≡ true

  pub record Unread : Type 0 where
    pub asked : endpoint_asked c.prefix request ≡ Some endpoint.Authorization
    pub why : AskNo
    pub refused : parameters ≡ Err why

  -- what led to an ask
  abbrev pub Led : OpAsk → Type 0
  Led (ask.Authorize verdict browser session) = LedToVerdict verdict
  Led (ask.Login turn signed browser session) = LedToLogin turn signed
  Led (ask.Consent turn agree browser session) = LedToConsent turn agree
  Led (ask.Token grant) = grant ≡ grant_read c request.auth request.body
  Led (ask.Info bearer) = Unit {0}
  Led (ask.SignOut session) = Unit {0}
  Led ask.Metadata = Unit {0}
  Led ask.Keys = Unit {0}
  Led ask.Twice = Unread ⊎ (Refused endpoint.Login login_names ⊎ Refused endpoint.Consent consent_names)
  Led ask.NotHere = (e : Endpoint) → ¬ (endpoint_asked c.prefix request ≡ Some e)

  authorization_led : (r : Result Params AskNo) → parameters ≡ r → endpoint_asked c.prefix request ≡ Some endpoint.Authorization → Led (authorization_asked c request r)
  authorization_led (Ok params) is at = record { asked = at; params = params; read = is; verdict = refl }
  authorization_led (Err why) is at = inl (record { asked = at; why = why; refused = is })

  login_led : (b : Bool) → repeats_one login_names (fields_of request.body) ≡ b → endpoint_asked c.prefix request ≡ Some endpoint.Login
      → Led (cond b ask.Twice (ask.Login (word_of_text (field turn_field (fields_of request.body))) (signed_user c (field user_field (fields_of request.body)) (field password_field (fields_of request.body))) request.first request.second))
  login_led true is at = inr (inl (record { asked = at; twice = is }))
  login_led false is at = record { asked = at; once = is; turn_is = refl; signed_is = refl }

  consent_led : (b : Bool) → repeats_one consent_names (fields_of request.body) ≡ b → endpoint_asked c.prefix request ≡ Some endpoint.Consent
      → Led (cond b ask.Twice (ask.Consent (word_of_text (field turn_field (fields_of request.body))) (bytes_eq (field agree_field (fields_of request.body)) agree_value) request.first request.second))
  consent_led true is at = inr (inr (record { asked = at; twice = is }))
  consent_led false is at = record { asked = at; once = is; turn_is = refl; agree_is = refl }

  nowhere : (o : Option Endpoint) (e : Endpoint) → o ≡ None → o ≡ Some e → ⊥
  nowhere o e none at = cc

  led_at : (o : Option Endpoint) → endpoint_asked c.prefix request ≡ o → Led (asked_at c request o)
  led_at None is = λ e at. nowhere (endpoint_asked c.prefix request) e is at
  led_at (Some endpoint.Metadata) is = tt
  led_at (Some endpoint.Keys) is = tt
  led_at (Some endpoint.Authorization) is = authorization_led parameters refl is
  led_at (Some endpoint.Login) is = login_led (repeats_one login_names (fields_of request.body)) refl is
  led_at (Some endpoint.Consent) is = consent_led (repeats_one consent_names (fields_of request.body)) refl is
  led_at (Some endpoint.Token) is = refl
  led_at (Some endpoint.UserInfo) is = tt
  led_at (Some endpoint.SignOut) is = tt

  pub led : Led (prepared c request)
  unfolding prepared
  led = led_at (endpoint_asked c.prefix request) refl

  pub led_to : (x : OpAsk) → prepared c request ≡ x → Led x
  led_to x is = subst Led is led

  -- ---- cookies

  authorization_cookies : (r : Result Params AskNo) → HasCookies request (authorization_asked c request r)
  authorization_cookies (Ok params) = (refl, refl)
  authorization_cookies (Err why) = tt

  form_cookies : (b : Bool) (x : OpAsk) → HasCookies request x → HasCookies request (cond b ask.Twice x)
  form_cookies true x h = tt
  form_cookies false x h = h

  cookies_at : (o : Option Endpoint) → HasCookies request (asked_at c request o)
  cookies_at None = tt
  cookies_at (Some endpoint.Metadata) = tt
  cookies_at (Some endpoint.Keys) = tt
  cookies_at (Some endpoint.Authorization) = authorization_cookies parameters
  cookies_at (Some endpoint.Login) =
      form_cookies (repeats_one login_names (fields_of request.body)) (ask.Login (word_of_text (field turn_field (fields_of request.body))) (signed_user c (field user_field (fields_of request.body)) (field password_field (fields_of request.body))) request.first request.second) (refl, refl)
  cookies_at (Some endpoint.Consent) =
      form_cookies (repeats_one consent_names (fields_of request.body)) (ask.Consent (word_of_text (field turn_field (fields_of request.body))) (bytes_eq (field agree_field (fields_of request.body)) agree_value) request.first request.second) (refl, refl)
  cookies_at (Some endpoint.Token) = tt
  cookies_at (Some endpoint.UserInfo) = tt
  cookies_at (Some endpoint.SignOut) = refl

  pub has_cookies : HasCookies request (prepared c request)
  unfolding prepared
  has_cookies = cookies_at (endpoint_asked c.prefix request)

  -- ---- endpoints

  authorization_own : (r : Result Params AskNo) (e : Endpoint) → own_endpoint (authorization_asked c request r) ≡ Some e → Some endpoint.Authorization ≡ Some e
  authorization_own (Ok params) e h = h
  authorization_own (Err why) e h = absurd (cc)

  form_own : (b : Bool) (x : OpAsk) (d e : Endpoint) → own_endpoint x ≡ Some d → own_endpoint (cond b ask.Twice x) ≡ Some e → Some d ≡ Some e
  form_own true x d e is h = absurd (cc)
  form_own false x d e is h = sym is ∙ h

  own_at : (o : Option Endpoint) (e : Endpoint) → own_endpoint (asked_at c request o) ≡ Some e → o ≡ Some e
  own_at None e h = absurd (cc)
  own_at (Some endpoint.Metadata) e h = h
  own_at (Some endpoint.Keys) e h = h
  own_at (Some endpoint.Authorization) e h = authorization_own parameters e h
  own_at (Some endpoint.Login) e h =
      form_own (repeats_one login_names (fields_of request.body)) (ask.Login (word_of_text (field turn_field (fields_of request.body))) (signed_user c (field user_field (fields_of request.body)) (field password_field (fields_of request.body))) request.first request.second) endpoint.Login e refl h
  own_at (Some endpoint.Consent) e h =
      form_own (repeats_one consent_names (fields_of request.body)) (ask.Consent (word_of_text (field turn_field (fields_of request.body))) (bytes_eq (field agree_field (fields_of request.body)) agree_value) request.first request.second) endpoint.Consent e refl h
  own_at (Some endpoint.Token) e h = h
  own_at (Some endpoint.UserInfo) e h = h
  own_at (Some endpoint.SignOut) e h = h

  pub own_asked : (e : Endpoint) → own_endpoint (prepared c request) ≡ Some e → endpoint_asked c.prefix request ≡ Some e
  unfolding prepared
  own_asked e h = own_at (endpoint_asked c.prefix request) e h

-- a request that was read as a login posts the login form
pub login_told : (c : Configuration) (request : Ask) (turn : Option Word) (signed : Option ℕ) (browser session : Option Word)
    → prepared c request ≡ ask.Login turn signed browser session → is_login c.prefix request ≡ true
unfolding is_login
login_told c request turn signed browser session h = ap is_login_endpoint (led_to c request (ask.Login turn signed browser session) h).asked
