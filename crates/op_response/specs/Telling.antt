-- The provider's replies in HTTP (RFC 9110; OpenID Connect Core 1.0, 3.1.2, 3.1.3 and 5.3).
use Rattle.std.specs.Prelude.{ℕ, Bool, true, false, [], ◌++◌, codes, Option, Some, None, option_and_then}
use Rattle.sso_base.specs.Words.{Word, Text, word_text}
use Rattle.sso_base.specs.declared.http.HttpReply.{HttpReply}
use Rattle.sso_base.specs.declared.http.Kind.TheVariants.{Empty, Json}
use Rattle.http_reply.specs.Replies.{html, sent_to}
use Rattle.html_pages.specs.Documents.{shown}
use Rattle.client_registry.specs.declared.records.Client.{Client}
use Rattle.client_registry.specs.Configuration.{Configuration}
use Rattle.client_registry.specs.Records.{client_place}
use Rattle.client_registry.specs.Numbers.{client_at}
use Rattle.oidc_words.specs.declared.scopes.Scopes.{Scopes}
use Rattle.oidc_words.specs.Errors.{invalid_token}
use Rattle.oidc_words.specs.TokenTypes.{bearer_word}
use Rattle.auth_request.specs.declared.wish.PageNo.{PageNo}
use Rattle.auth_answer.specs.Printing.{answer_location, refusal_location}
use Rattle.token_endpoint.specs.declared.error.TokenError.{TokenError}
use Rattle.token_endpoint.specs.declared.error.TokenError.TheVariants.{InvalidClient}
use Rattle.token_endpoint.specs.Answer.{tokens_text}
use Rattle.token_endpoint.specs.Errors.{error_text}
use Rattle.op_exchange.specs.declared.reply.OpReply.{OpReply}
use Rattle.op_exchange.specs.declared.reply.OpReply.TheVariants as reply
use Rattle.op_response.specs.Cookies.{browser_cookies, session_cookies}
use Rattle.op_response.specs.Pages.{login_page, consent_page}
use Rattle.op_response.specs.FullPages.{full_login_page, full_consent_page, error_line, error_page, signed_out_page, table_page, missing_page}

-- ---- kinds of replies

abbrev pub json : Text → HttpReply
json text =
    record { status = 200; pragma = false; location = None; cookies = []; challenge = None; kind = Json; body = text }

-- a response of the token endpoint, which must not be cached (RFC 6749, 5.1 and 5.2)
abbrev pub token_response : ℕ → Option Text → Text → HttpReply
token_response status challenge text =
    record { status = status; pragma = true; location = None; cookies = []; challenge = challenge; kind = Json; body = text }

-- the reply to a request without a valid token (RFC 6750, 3)
abbrev pub unauthorized : Text → HttpReply
unauthorized challenge =
    record { status = 401; pragma = false; location = None; cookies = []; challenge = Some challenge; kind = Empty; body = [] }

-- ---- pages

-- the login page, full or plain
abbrev pub login_body : Bool → Text → Text → Text → Bool → Text
login_body false site prefix turn again = login_page prefix turn again
login_body true site prefix turn again = full_login_page site prefix turn again

abbrev pub login_shown : Configuration → Word → Word → Bool → HttpReply
login_shown c turn browser again =
    html (browser_cookies c browser) (login_body c.full_pages c.title c.prefix (word_text turn) again)

-- the title of the client with an id
abbrev pub title_in : Text → Option Client → Text
title_in id None = id
title_in id (Some client) = client.title

abbrev pub application_title : Configuration → Text → Text
application_title c id = title_in id (option_and_then (client_at c) (client_place id c.clients))

-- the consent page, full or plain, for a client with this id
abbrev pub consent_body : Bool → Configuration → Text → Text → Scopes → Text
consent_body false c turn client scopes = consent_page c.prefix turn client scopes
consent_body true c turn client scopes = full_consent_page c.title c.prefix turn (application_title c client) scopes

abbrev pub consent_shown : Configuration → Word → Word → Option Word → Text → Scopes → HttpReply
consent_shown c turn browser session client scopes =
    html (browser_cookies c browser ++ session_cookies c session) (consent_body c.full_pages c (word_text turn) client scopes)

abbrev pub error_shown : Configuration → PageNo → HttpReply
error_shown c why = shown 400 (error_page c.full_pages c.title why) (error_line why)

abbrev pub signed_out_shown : Configuration → HttpReply
signed_out_shown c = shown 200 (signed_out_page c.full_pages c.title) (codes "signed out")

abbrev pub full_shown : Configuration → HttpReply
full_shown c = shown 503 (table_page c.full_pages c.title) (codes "full")

abbrev pub missing_shown : Configuration → HttpReply
missing_shown c = shown 404 (missing_page c.full_pages c.title) (codes "not here")

-- ---- error responses

-- a client that is not authenticated gets a challenge (RFC 6749, 5.2; RFC 7617, 2)
abbrev pub token_refused : TokenError → HttpReply
token_refused InvalidClient = token_response 401 (Some (codes "Basic realm=\"sso\"")) (error_text InvalidClient)
token_refused other = token_response 400 None (error_text other)

-- an invalid token gives an error code, a missing one does not (RFC 6750, 3.1)
abbrev pub bearer_challenge : Bool → Text
bearer_challenge true = bearer_word ++ codes " error=\"" ++ invalid_token ++ codes "\""
bearer_challenge false = bearer_word ++ codes " realm=\"sso\""

-- ---- each reply

unfoldable pub http_of : Configuration → OpReply → HttpReply
http_of c (reply.LoginPage turn browser again) = login_shown c turn browser again
http_of c (reply.ConsentPage turn browser session client scopes) = consent_shown c turn browser session client scopes
http_of c (reply.Answered answer session) = sent_to (answer_location answer) (session_cookies c session)
http_of c (reply.Refused refusal session) = sent_to (refusal_location refusal) (session_cookies c session)
http_of c (reply.ErrorPage why) = error_shown c why
http_of c (reply.Tokens access id) = token_response 200 None (tokens_text (word_text access) id)
http_of c (reply.TokenRefused code) = token_refused code
http_of c (reply.Info claims) = json claims
http_of c (reply.InfoRefused given) = unauthorized (bearer_challenge given)
http_of c (reply.SignedOut messages) = signed_out_shown c
http_of c (reply.Metadata text) = json text
http_of c reply.Keys = json (codes "{\"keys\":[]}")
http_of c reply.NotHere = missing_shown c
http_of c reply.Full = full_shown c
