-- The request in an HTTP request, and a reply as it is sent.
use Rattle.std.proofs.Common.{◌≡◌, Bool, true, false, ◌&&◌, cond, Option, Some, None, refl}
use Rattle.std.specs.Prelude.{if◌then◌else◌}
use Rattle.sso_base.specs.Words.{Word, word_text}
use Rattle.sso_base.specs.declared.http.Ask.{Ask}
use Rattle.sso_base.specs.declared.http.HttpReply.{HttpReply}
use Rattle.client_registry.specs.Configuration.{Configuration}
use Rattle.oidc_words.specs.declared.scopes.Scopes.{Scopes}
use Rattle.request_params.specs.Form.{posted}
use Rattle.op_exchange.specs.declared.ask.OpAsk.{OpAsk}
use Rattle.op_exchange.specs.declared.ask.OpAsk.TheVariants.{Token}
use Rattle.op_exchange.specs.declared.reply.OpReply.{OpReply}
use Rattle.op_exchange.specs.declared.reply.OpReply.TheVariants as op_reply
use Rattle.op_response.specs.Telling.{http_of, token_response}
use Rattle.refresh_answer.specs.declared.asks.RefreshAsk.{RefreshAsk}
use Rattle.refresh_answer.specs.declared.asks.RefreshAsk.TheVariants as ask
use Rattle.refresh_answer.specs.declared.asks.OwnReply.{OwnReply}
use Rattle.refresh_answer.specs.declared.asks.OwnReply.TheVariants as own
use Rattle.refresh_answer.specs.declared.asks.RefreshReply.{RefreshReply}
use Rattle.refresh_answer.specs.declared.asks.RefreshReply.TheVariants.{Through, First, Own}
use Rattle.refresh_answer.specs.Around.{outer_plain}
use Rattle.refresh_request.specs.Reading.{is_refresh, refresh_read}
use Rattle.refresh_request.specs.Offline.{asks_offline}
use Rattle.refresh_request.specs.Printing.{first_text, refreshed_text}

-- ---- requests

abbrev pub is_token : Option OpAsk → Bool
is_token (Some (Token grant)) = true
is_token asked = false

-- a token request whose only grant type is `refresh_token` is a refresh request, and any other request is one of the inner core
abbrev pub asked_around : {A : Type 0} → (A → Option OpAsk) → Configuration → Ask → A → RefreshAsk A
asked_around plain c request inner =
    if is_token (plain inner) && is_refresh (posted request.body) then ask.Refresh (refresh_read c request.auth request.body)
    else ask.Through inner (asks_offline c request (plain inner))

asked_by : {A : Type 0} (plain : A → Option OpAsk) (b o : Bool) (refresh : RefreshAsk A) (inner : A) (a : OpAsk) → outer_plain plain refresh ≡ None
    → outer_plain plain (cond b refresh (ask.Through inner o)) ≡ Some a → plain inner ≡ Some a
asked_by plain true o refresh inner a none same = absurd (cc)
asked_by plain false o refresh inner a none same = same

-- the provider's request in it, if there is one, is that of the inner core's request
pub plain_around : {A : Type 0} (plain : A → Option OpAsk) (c : Configuration) (request : Ask) (inner : A) (a : OpAsk)
    → outer_plain plain (asked_around plain c request inner) ≡ Some a → plain inner ≡ Some a
plain_around plain c request inner a same =
    asked_by plain (is_token (plain inner) && is_refresh (posted request.body)) (asks_offline c request (plain inner))
    (ask.Refresh (refresh_read c request.auth request.body)) inner a refl same

-- a request without further parameters
abbrev pub alone : {A : Type 0} → A → RefreshAsk A
alone inner = ask.Through inner false

-- ---- replies

-- a token response of the inner core, with a refresh token
abbrev pub with_refresh : Option OpReply → HttpReply → Word → HttpReply
with_refresh (Some (op_reply.Tokens access id)) reply refresh = record reply { body = first_text (word_text access) id (word_text refresh) }
with_refresh told reply refresh = reply

abbrev pub refreshed_http : Word → Word → Scopes → HttpReply
refreshed_http access refresh scopes = token_response 200 None (refreshed_text (word_text access) (word_text refresh) scopes)

abbrev pub own_http : Configuration → OwnReply → HttpReply
own_http c (own.Refreshed access refresh scopes) = refreshed_http access refresh scopes
own_http c (own.Refused code) = http_of c (op_reply.TokenRefused code)
own_http c (own.Info claims) = http_of c (op_reply.Info claims)
own_http c own.NotHere = http_of c op_reply.NotHere
own_http c own.Full = http_of c op_reply.Full

abbrev pub outer_http : {R : Type 0} → (Configuration → R → HttpReply) → (R → Option OpReply) → Configuration → RefreshReply R → HttpReply
outer_http http told c (Through reply) = http c reply
outer_http http told c (First reply refresh) = with_refresh (told reply) (http c reply) refresh
outer_http http told c (Own own) = own_http c own
