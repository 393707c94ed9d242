-- The tokens that a place checks under a secret of a client: those that parsing its request verifies.
use Rattle.std.specs.Prelude.{ℕ, List, [], ◌∷◌, Some, Result, Ok, Err}
use Rattle.sso_base.specs.declared.http.Ask.{Ask}
use Rattle.client_registry.specs.Configuration.{Configuration}
use Rattle.request_params.specs.declared.params.Params.{Params}
use Rattle.request_params.specs.declared.no.AskNo.{AskNo}
use Rattle.request_params.specs.Reading.{request_read}
use Rattle.request_params.specs.Form.{form_of, posted}
use Rattle.auth_request.specs.Judgement.{client_number}
use Rattle.op_exchange.specs.declared.ask.OpAsk.{OpAsk}
use Rattle.op_exchange.specs.declared.ask.OpAsk.TheVariants as op_ask
use Rattle.rp_exchange.specs.declared.ask.RpAsk.{RpAsk}
use Rattle.rp_exchange.specs.declared.ask.RpAsk.TheVariants as rp_ask
use Rattle.rp_request.specs.Prepared.{logout_token_in}
use Rattle.sso_places.specs.declared.types.WorldAsk.{WorldAsk}
use Rattle.sso_places.specs.declared.types.WorldAsk.TheVariants.{Http, Tokens, Info}
use Rattle.sso_places.specs.Site.{Site, client_of_party}
use Rattle.sso_places.specs.World.{Place, Provider, Party, Nothing}
use Rattle.sso_places.specs.Tokens.{TokenText, token_if}

-- the request object of an authorization request that can be read, if its client is known (Core 6.1 and 6.3)
abbrev pub object_in : Configuration → Result Params AskNo → List TokenText
object_in c (Ok params) = token_if (client_number c params) params.request
object_in c (Err why) = []

-- only `Authorize` comes from such a request
abbrev pub op_checked : Configuration → Ask → OpAsk → List TokenText
op_checked c request (op_ask.Authorize verdict browser session) = object_in c (request_read (form_of request.method request))
op_checked c request asked = []

-- the logout token of a logout request; the empty text if there is none, or more than one
abbrev pub logout_checked : ℕ → WorldAsk → List TokenText
logout_checked client (Http request) = (client, logout_token_in (posted request.body)) ∷ []
logout_checked client (Tokens w answer) = []
logout_checked client (Info w answer) = []

-- the ID Token of a readable response, even if the response type has none or the response is refused before verification
abbrev pub rp_checked : ℕ → WorldAsk → RpAsk → List TokenText
rp_checked client request (rp_ask.Callback (Ok heard) id browser) = token_if (Some client) heard.id
rp_checked client request (rp_ask.Tokens w (Ok came) id) = (client, came.id) ∷ []
rp_checked client request (rp_ask.Logout claims) = logout_checked client request
rp_checked client request asked = []

abbrev pub checked : Site → Place → List TokenText
checked s (Provider from request p) = op_checked s.configuration request p.entry.ask
checked s (Party n from request p) = rp_checked (client_of_party s n) request p.entry.ask
checked s Nothing = []
