-- The values of requests to a relying party, of token responses and of UserInfo responses.
use Rattle.std.specs.Prelude.{ℕ, ◌==◌, nat_lt, Bool, true, false, ◌&&◌, List, [], length, filter, codes, Option, Some, None, option_map, option_and_then}
use Rattle.std.specs.Prelude.{unwrap_or, Result, Ok, Err, if◌then◌else◌}
use Rattle.std.specs.Str.{bytes_eq}
use Rattle.sso_base.specs.Words.{Word, Text}
use Rattle.sso_base.specs.declared.http.Method.{Method}
use Rattle.sso_base.specs.declared.http.Method.TheVariants.{Get}
use Rattle.sso_base.specs.declared.http.Ask.{Ask}
use Rattle.sso_base.specs.declared.message.Answered.{Answered}
use Rattle.oidc_words.specs.declared.response_types.Types.{Types}
use Rattle.oidc_words.specs.Types.{is_in_fragment}
use Rattle.registered_url.specs.declared.web_url.WebUrl.{WebUrl}
use Rattle.client_registry.specs.declared.records.Client.{Client}
use Rattle.client_registry.specs.declared.records.Party.{Party}
use Rattle.client_registry.specs.Configuration.{Configuration}
use Rattle.client_registry.specs.Numbers.{client_at, party_at, party_row, party_client}
use Rattle.request_params.specs.Form.{Pair, form_pairs, posted, form_of}
use Rattle.request_params.specs.Reading.{value_of}
use Rattle.auth_answer.specs.declared.heard.Heard.{Heard}
use Rattle.auth_answer.specs.declared.no.AnswerNo.{AnswerNo}
use Rattle.auth_answer.specs.Reading.{answer_read}
use Rattle.token_endpoint.specs.declared.reading.Tokens.{Tokens}
use Rattle.token_endpoint.specs.declared.no.TokensNo.{TokensNo}
use Rattle.token_endpoint.specs.Answer.{tokens_read}
use Rattle.userinfo.specs.Answer.{info_read}
use Rattle.rp_exchange.specs.declared.ask.RpAsk.{RpAsk}
use Rattle.rp_exchange.specs.declared.ask.RpAsk.TheVariants as ask
use Rattle.rp_request.specs.declared.routes.Endpoint.{Endpoint}
use Rattle.rp_request.specs.declared.routes.Endpoint.TheVariants as endpoint
use Rattle.rp_request.specs.Routes.{endpoint_asked}
use Rattle.rp_request.specs.Opened.{id_read_for, logout_read_for}

-- ---- an authorization response (OpenID Connect Core 1.0, 3.1.2.5 and 3.2.2.5)

-- its ID Token is read as one of the client
abbrev pub callback_asked : Client → Option Word → Result Heard AnswerNo → RpAsk
callback_asked client browser (Ok heard) = ask.Callback (Ok heard) (option_map (id_read_for client) heard.id) browser
callback_asked client browser (Err why) = ask.Callback (Err why) None browser

-- ---- a response in the fragment, which only the browser sees (Core 3.2.2.5): a request for the page that posts it

abbrev pub is_get : Method → Bool
is_get Get = true
is_get method = false

-- a GET with an empty query, for a response type whose response is in the fragment
abbrev pub wants_page : Types → Ask → Bool
wants_page types request = is_get request.method && (length request.query == 0 && is_in_fragment types)

abbrev pub redirected : Client → Types → Ask → RpAsk
redirected client types request =
    if wants_page types request then ask.Fragment else callback_asked client request.first (answer_read (form_of request.method request))

-- ---- a logout request (OpenID Connect Back-Channel Logout 1.0, 2.5)

-- the value of a name that occurs once among the pairs
abbrev pub only_value : Text → List Pair → Option Text
only_value name pairs = if nat_lt 1 (length (filter (λ (pair : Pair). bytes_eq pair.0 name) pairs)) then None else value_of name pairs

-- the logout token of a form; the empty text if there is none, or more than one
abbrev pub logout_token_in : List ℕ → Text
logout_token_in form = unwrap_or (only_value (codes "logout_token") (form_pairs form)) []

-- the logout token is read as one of the client
abbrev pub logout_asked : Client → List ℕ → RpAsk
logout_asked client form = ask.Logout (logout_read_for client (logout_token_in form))

-- ---- any request: its first cookie is the browser's word, its second the session's

abbrev pub asked_at : Client → Types → Ask → Option Endpoint → RpAsk
asked_at client types request None = ask.NotHere
asked_at client types request (Some endpoint.Login) = ask.Begin request.first
asked_at client types request (Some endpoint.Home) = ask.Visit request.second
asked_at client types request (Some endpoint.Redirection) = redirected client types request
asked_at client types request (Some endpoint.Leave) = ask.Leave request.second
asked_at client types request (Some endpoint.Logout) = logout_asked client (posted request.body)

-- the path of the logout URI of a party's client, if it has one
abbrev pub logout_path_of : Client → Option Text
logout_path_of client = option_map (λ (url : WebUrl). url.path) client.logout_url

abbrev pub logout_path : Configuration → Party → Option Text
logout_path c party = option_and_then logout_path_of (client_at c party.client)

-- the endpoint of a request to the party with this number
abbrev pub endpoint_at : Configuration → ℕ → Ask → Option Endpoint
endpoint_at c n request = option_and_then (λ (party : Party). endpoint_asked party.redirect_url.path (logout_path c party) request) (party_at c n)

-- the value of a request to the party with this number
unfoldable pub prepared : Configuration → ℕ → Ask → RpAsk
prepared c n request = asked_at (party_client c n) (party_row c n).types request (endpoint_at c n request)

-- ---- a token response (Core 3.1.3.3)

abbrev pub tokens_asked : Client → Word → Result Tokens TokensNo → RpAsk
tokens_asked client pending (Ok tokens) = ask.Tokens pending (Ok tokens) (Some (id_read_for client tokens.id))
tokens_asked client pending (Err why) = ask.Tokens pending (Err why) None

-- the value of such a response to the party with this number, in the exchange that is waiting for it under this word
unfoldable pub tokens_prepared : Configuration → ℕ → Word → Answered → RpAsk
tokens_prepared c n pending answer = tokens_asked (party_client c n) pending (tokens_read answer)

-- ---- a UserInfo response (Core 5.3.2)

-- the value of such a response, in the exchange that is waiting for it under this word; it needs no secret
unfoldable pub info_prepared : Word → Answered → RpAsk
info_prepared pending answer = ask.Info pending (info_read answer)
