-- The tokens that are written for a client, under the secret that seals: the provider's ID Tokens (OpenID Connect Core 1.0, 2),
-- its logout tokens (Back-Channel Logout 1.0, 2.4), and the request objects of the party that is the client (Core 6.1).
use Rattle.std.specs.Prelude.{◌≡◌, ℕ, List, [], ◌∷◌, ◌++◌, codes, map, Option, Some, None, Ok, if◌then◌else◌}
use Rattle.sso_base.specs.Words.{Word, Text, fresh_word}
use Rattle.sso_base.specs.declared.history.Entry.{Entry}
use Rattle.client_registry.specs.Configuration.{Configuration}
use Rattle.client_registry.specs.Numbers.{party_row, party_client}
use Rattle.client_registry.specs.Rules.{redirect_place}
use Rattle.code_grant.specs.declared.rows.SessionRow.{SessionRow}
use Rattle.login_request.specs.Request.{login_object}
use Rattle.op_exchange.specs.declared.ask.OpAsk.{OpAsk}
use Rattle.op_exchange.specs.declared.ask.OpAsk.TheVariants as op_ask
use Rattle.op_exchange.specs.declared.reply.OpReply.{OpReply}
use Rattle.op_exchange.specs.declared.reply.OpReply.TheVariants as op
use Rattle.op_issue.specs.LogoutTokens.{issued_logout}
use Rattle.op_answer.specs.Past.{OpPast}
use Rattle.op_answer.specs.Replies.{sign_out_of}
use Rattle.rp_exchange.specs.declared.reply.RpReply.{RpReply}
use Rattle.rp_exchange.specs.declared.reply.RpReply.TheVariants as rp
use Rattle.sso_places.specs.Site.{Site, client_of_party}
use Rattle.sso_places.specs.World.{Place, Provider, Party, Nothing, World, op_past}
use Rattle.sso_places.specs.Told.{told_clients, session_ended}
use Rattle.sso_places.specs.Tokens.{TokenText, token_if}

-- ---- the provider

-- the client with this redirect URI; no two clients share one
abbrev pub client_of_uri : Configuration → Text → Option ℕ
client_of_uri c uri = redirect_place uri c.clients

-- the logout tokens of a sign-out, one for each of its messages
abbrev pub logouts_written : Configuration → Entry OpAsk → Option SessionRow → List TokenText
logouts_written c e None = []
logouts_written c e (Some session) =
    map (λ client. (client, issued_logout c client (sign_out_of e session))) (told_clients c session.clients)

-- The ID Token of an authorization response is for the client whose redirect URI receives it. The one of a token response is
-- for the client of the token request.
abbrev pub op_written : Configuration → OpPast → Entry OpAsk → OpAsk → OpReply → List TokenText
op_written c past e asked (op.Answered answer given) = token_if (client_of_uri c answer.redirect) answer.id
op_written c past e (op_ask.Token (Ok grant)) (op.Tokens access id) = (grant.client, id) ∷ []
op_written c past e asked (op.SignedOut messages) = logouts_written c e (session_ended past e.at asked)
op_written c past e asked reply = []

-- ---- a party: the request object of a login, if it signs its requests

abbrev pub object_written : Site → ℕ → List Word → List TokenText
object_written s n fresh =
    let c = s.configuration in
    let state = fresh_word fresh 1 in
    let nonce = fresh_word fresh 2 in
    if (party_row c n).signed
    then (client_of_party s n, login_object (party_client c n) (party_row c n) (s.trusts n).issuer state nonce) ∷ []
    else []

abbrev pub rp_written : Site → ℕ → List Word → RpReply → List TokenText
rp_written s n fresh (rp.Ask to browser) = object_written s n fresh
rp_written s n fresh reply = []

-- the location has the request object as its last parameter
pub record CarriesObject (to : Text) (object : TokenText) : Type 0 where
  pub front : Text
  pub parts : to ≡ front ++ codes "&request=" ++ object.1

-- ---- at a place after a world, and in a world

abbrev pub written_at : Site → World → Place → List TokenText
written_at s world (Provider from request p) = op_written s.configuration (op_past world) p.entry p.entry.ask p.reply
written_at s world (Party n from request p) = rp_written s n p.entry.fresh p.reply
written_at s world Nothing = []

abbrev pub written : Site → World → List TokenText
written s [] = []
written s (x ∷ world) = written_at s world x ++ written s world
