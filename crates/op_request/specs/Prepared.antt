-- The value of a request to the provider.
use Rattle.std.specs.Prelude.{ℕ, Bool, true, false, List, Option, Some, None, option_map, option_and_then, unwrap_or, Result, Ok, Err, if◌then◌else◌}
use Rattle.std.specs.Result.{result_ok}
use Rattle.std.specs.Str.{bytes_eq}
use Rattle.sso_base.specs.Words.{Text, word_of_text}
use Rattle.sso_base.specs.declared.http.Ask.{Ask}
use Rattle.hmac256.specs.Hmac.{proof_of}
use Rattle.oidc_words.specs.Words.{has_word}
use Rattle.client_registry.specs.declared.records.User.{User}
use Rattle.client_registry.specs.declared.records.Client.{Client}
use Rattle.client_registry.specs.Rules.{user_place}
use Rattle.client_registry.specs.Configuration.{Configuration}
use Rattle.client_registry.specs.Numbers.{user_at, client_at}
use Rattle.request_params.specs.declared.params.Params.{Params}
use Rattle.request_params.specs.declared.no.AskNo.{AskNo}
use Rattle.request_params.specs.Form.{Pair, form_of}
use Rattle.request_params.specs.Reading.{request_read}
use Rattle.request_params.specs.Merging.{request_merged}
use Rattle.auth_request.specs.declared.wish.Verdict.{Verdict}
use Rattle.auth_request.specs.Judgement.{client_number, judgement}
use Rattle.request_object.specs.Reading.{request_read as object_read}
use Rattle.token_endpoint.specs.Request.{grant_read}
use Rattle.userinfo.specs.Header.{bearer_read}
use Rattle.op_exchange.specs.declared.ask.OpAsk.{OpAsk}
use Rattle.op_exchange.specs.declared.ask.OpAsk.TheVariants as ask
use Rattle.op_exchange.specs.Fields.{turn_field, user_field, password_field, agree_field, agree_value}
use Rattle.op_request.specs.declared.routes.Endpoint.{Endpoint}
use Rattle.op_request.specs.declared.routes.Endpoint.TheVariants as endpoint
use Rattle.op_request.specs.Routes.{endpoint_asked}
use Rattle.op_request.specs.PostedForms.{login_names, consent_names, fields_of, repeats_one, field}

-- ---- an authorization request (OpenID Connect Core 1.0, 3.1.2.1)

-- the client with the request's `client_id`
abbrev pub client_named : Configuration → Params → Option Client
client_named c params = option_and_then (client_at c) (client_number c params)

-- the merged parameters of a request and its request object; none if the object is not one of this client for this provider, or
-- does not fit the parameters outside it (Core 6.1 and 6.3)
abbrev pub with_object : Configuration → Client → Params → Text → Option Params
with_object c client beside object =
    option_and_then (λ inside. result_ok (request_merged beside inside)) (result_ok (object_read client c.provider.issuer object))

-- if the object was rejected, the parameters outside it are validated
abbrev pub judged_whole : Configuration → Params → Option Params → Verdict
judged_whole c beside None = judgement c beside true
judged_whole c beside (Some whole) = judgement c whole false

-- a request object is read under a secret of its client, so it is ignored without a client
abbrev pub judged_by : Configuration → Params → Option Client → Option Text → Verdict
judged_by c params (Some client) (Some object) = judged_whole c params (with_object c client params object)
judged_by c params client object = judgement c params false

abbrev pub judged : Configuration → Params → Verdict
judged c params = judged_by c params (client_named c params) params.request

-- the merged parameters, if the request object is not rejected
abbrev pub whole_by : Configuration → Params → Option Client → Option Text → Option Params
whole_by c params (Some client) (Some object) = with_object c client params object
whole_by c params client object = Some params

abbrev pub has_scope : Text → Option Params → Bool
has_scope word None = false
has_scope word (Some params) = unwrap_or (option_map (has_word word) params.scope) false

-- whether `scope` has a word, among the merged parameters of an authorization request
abbrev pub scope_in : Configuration → Text → Result Params AskNo → Bool
scope_in c word (Ok params) = has_scope word (whole_by c params (client_named c params) params.request)
scope_in c word (Err why) = false

unfoldable pub asks_for_scope : Configuration → Ask → Text → Bool
asks_for_scope c request word = scope_in c word (request_read (form_of request.method request))

-- the only error of a form is that a name occurs twice
abbrev pub authorization_asked : Configuration → Ask → Result Params AskNo → OpAsk
authorization_asked c request (Ok params) = ask.Authorize (judged c params) request.first request.second
authorization_asked c request (Err why) = ask.Twice

-- ---- the forms of the provider's own pages

-- there is a user, and the proof of the password is the user's (RFC 8018, 5.2)
abbrev pub is_password_of : Option User → Text → Bool
is_password_of None password = false
is_password_of (Some user) password = bytes_eq (proof_of password user.salt user.rounds) user.proof

abbrev pub if_password : Configuration → Text → ℕ → Option ℕ
if_password c password n = if is_password_of (user_at c n) password then Some n else None

-- the number of the user with this id and this password
abbrev pub signed_user : Configuration → Text → Text → Option ℕ
signed_user c id password = option_and_then (if_password c password) (user_place id c.users)

abbrev pub login_asked : Configuration → Ask → List Pair → OpAsk
login_asked c request fields =
    if repeats_one login_names fields then ask.Twice
    else
    ask.Login (word_of_text (field turn_field fields))
    (signed_user c (field user_field fields) (field password_field fields)) request.first request.second

abbrev pub consent_asked : Ask → List Pair → OpAsk
consent_asked request fields =
    if repeats_one consent_names fields then ask.Twice
    else
    ask.Consent (word_of_text (field turn_field fields)) (bytes_eq (field agree_field fields) agree_value)
    request.first request.second

-- ---- any request: its first cookie is the browser's word, its second the session's

abbrev pub asked_at : Configuration → Ask → Option Endpoint → OpAsk
asked_at c request None = ask.NotHere
asked_at c request (Some endpoint.Metadata) = ask.Metadata
asked_at c request (Some endpoint.Keys) = ask.Keys
asked_at c request (Some endpoint.Authorization) = authorization_asked c request (request_read (form_of request.method request))
asked_at c request (Some endpoint.Login) = login_asked c request (fields_of request.body)
asked_at c request (Some endpoint.Consent) = consent_asked request (fields_of request.body)
asked_at c request (Some endpoint.Token) = ask.Token (grant_read c request.auth request.body)
asked_at c request (Some endpoint.UserInfo) = ask.Info (bearer_read request.auth)
asked_at c request (Some endpoint.SignOut) = ask.SignOut request.second

-- the value of a request to the provider with this configuration
unfoldable pub prepared : Configuration → Ask → OpAsk
prepared c request = asked_at c request (endpoint_asked c.prefix request)
