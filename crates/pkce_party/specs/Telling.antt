-- A reply in HTTP, and the message that is sent after it (RFC 7636, 4.3 and 4.5). The parameters are added at the end: the location
-- of an authorization request has a query, and the body of a token request is a form.
use Rattle.std.specs.Prelude.{ℕ, List, ◌++◌, codes, Option, Some, None, option_map}
use Rattle.sso_base.specs.Words.{Text}
use Rattle.sso_base.specs.declared.http.HttpReply.{HttpReply}
use Rattle.sso_base.specs.declared.message.Message.{Message}
use Rattle.client_registry.specs.Configuration.{Configuration}
use Rattle.rp_exchange.specs.declared.reply.RpReply.{RpReply}
use Rattle.rp_response.specs.Telling.{http_of}
use Rattle.core_stack.specs.declared.sending.Sending.{Sending}
use Rattle.core_stack.specs.Relied.{sending_in}
use Rattle.pkce_party.specs.declared.reply.PartyReply.{PartyReply}

-- ---- the challenge, in a location

abbrev pub challenge_added : Text → Text → Text
challenge_added challenge to = to ++ codes "&code_challenge=" ++ challenge ++ codes "&code_challenge_method=S256"

abbrev pub challenged : Option Text → HttpReply → HttpReply
challenged None h = h
challenged (Some challenge) h = record h { location = option_map (challenge_added challenge) h.location }

-- the reply of the party with this number
abbrev pub party_http : Configuration → ℕ → PartyReply → HttpReply
party_http c n reply = challenged reply.challenge (http_of c n reply.inner)

-- ---- the verifier, in a body

abbrev pub verifier_added : Text → List ℕ → List ℕ
verifier_added verifier body = body ++ (codes "&code_verifier=" ++ verifier)

abbrev pub verified : Option Text → Message → Message
verified None message = message
verified (Some verifier) message = record message { body = option_map (verifier_added verifier) message.body }

abbrev pub sending_with : Option Text → RpReply → Option Sending
sending_with verifier reply =
    option_map (λ (s : Sending). record { pending = s.pending; message = verified verifier s.message }) (sending_in reply)

-- the message after a reply
abbrev pub party_sending : PartyReply → Option Sending
party_sending reply = sending_with reply.verifier reply.inner
