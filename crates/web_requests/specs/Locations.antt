-- The location to which a reply redirects a browser (RFC 9110, 10.2.2): from a party to the provider, with an authorization
-- request; from the provider to a redirect URI, with an authorization response. An accepted login leads to the party's own home
-- page, which is a separate visit and not a location here.
use Rattle.std.specs.Prelude.{ℕ, Bool, true, false, List, ◌++◌, codes, Option, Some, None, option_and_then, slice_get}
use Rattle.std.specs.List.{after_first, position_from}
use Rattle.std.specs.Str.{bytes_eq}
use Rattle.sso_base.specs.Words.{Text}
use Rattle.sso_base.specs.RequestLine.{is_question}
use Rattle.registered_url.specs.declared.web_url.WebUrl.{WebUrl}
use Rattle.client_registry.specs.declared.records.Client.{Client}
use Rattle.client_registry.specs.Configuration.{Configuration}
use Rattle.client_registry.specs.Numbers.{client_at}
use Rattle.oidc_words.specs.declared.errors.Refusal.{Refusal}
use Rattle.auth_answer.specs.declared.answer.Answer.{Answer}
use Rattle.auth_answer.specs.Printing.{answer_form, refusal_form}
use Rattle.op_exchange.specs.declared.reply.OpReply.TheVariants as op
use Rattle.rp_exchange.specs.declared.reply.RpReply.TheVariants as rp
use Rattle.sso_places.specs.Written.{client_of_uri}
use Rattle.sso_places.specs.declared.types.WorldReply.{WorldReply}
use Rattle.sso_places.specs.declared.types.WorldReply.TheVariants.{Provider, Party}
use Rattle.web_requests.specs.declared.location.Location.{Location}
use Rattle.web_requests.specs.declared.location.Location.TheVariants as location

-- ---- registered redirect URIs

-- the parsed form of a client's redirect URI
abbrev pub kept_url : Text → Client → Option WebUrl
kept_url uri client = option_and_then (slice_get client.redirect_urls) (position_from (λ t. bytes_eq t uri) 0 client.redirects)

-- the parsed form of a redirect URI
abbrev pub registered_url : Configuration → Text → Option WebUrl
registered_url c uri = option_and_then (kept_url uri) (option_and_then (client_at c) (client_of_uri c uri))

-- its query, if it has one
abbrev pub registered_query : Configuration → Text → Option Text
registered_query c uri = option_and_then (λ (url : WebUrl). url.query) (registered_url c uri)

-- ---- locations

-- a form in a query, after the registered query (RFC 6749, 3.1.2)
abbrev pub behind : Option Text → List ℕ → List ℕ
behind None form = form
behind (Some query) form = query ++ codes "&" ++ form

-- a form at a redirect URI: as its fragment, or in its query
abbrev pub location_at : Configuration → Text → Bool → List ℕ → Location
location_at c uri true form = location.Client uri true form
location_at c uri false form = location.Client uri false (behind (registered_query c uri) form)

-- an answer and a refusal, at their redirect URIs
abbrev pub answer_at : Configuration → Answer → Location
answer_at c answer = location_at c answer.redirect answer.fragment (answer_form answer)

abbrev pub refusal_at : Configuration → Refusal → Location
refusal_at c refusal = location_at c refusal.redirect refusal.fragment (refusal_form refusal)

-- the location to which a reply redirects a browser
unfoldable pub location_of : Configuration → WorldReply → Option Location
location_of c (Provider (op.Answered answer given)) = Some (answer_at c answer)
location_of c (Provider (op.Refused refusal given)) = Some (refusal_at c refusal)
location_of c (Party (rp.Ask to browser)) = Some (location.Provider (after_first is_question to))
location_of c reply = None
