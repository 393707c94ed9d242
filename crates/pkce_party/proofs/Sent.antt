-- What is sent: the challenge in the location, and the verifier in the body.
use Rattle.std.proofs.Common.{◌≡◌, ℕ, Option, Some, option_map, refl, ◌∙◌, ap}
use Rattle.sso_base.specs.Words.{Word, Text}
use Rattle.sso_base.specs.declared.message.Message.{Message}
use Rattle.client_registry.specs.Configuration.{Configuration}
use Rattle.rp_exchange.specs.declared.reply.RpReply.{RpReply}
use Rattle.rp_exchange.specs.declared.reply.RpReply.TheVariants as reply
use Rattle.rp_response.specs.Telling.{http_of}
use Rattle.core_stack.specs.declared.sending.Sending.{Sending}
use Rattle.pkce_party.specs.declared.reply.PartyReply.{PartyReply}
use Rattle.pkce_party.specs.Telling.{challenge_added, challenged, party_http, verifier_added, sending_with, party_sending}

-- where an authorization request goes
asks_at : (c : Configuration) (n : ℕ) (to : Text) (browser : Word) → (http_of c n (reply.Ask to browser)).location ≡ Some to
unfolding http_of
asks_at c n to browser = refl

pub in_the_location : (c : Configuration) (n : ℕ) (r : PartyReply) (to : Text) (browser : Word) (challenge : Text) → r.inner ≡ reply.Ask to browser
    → r.challenge ≡ Some challenge
    → (party_http c n r).location ≡ Some (challenge_added challenge to)
in_the_location c n r to browser challenge asks has =
    let D : Option Text → Option Text = λ o. (challenged o (http_of c n r.inner)).location in
    let M : Option Text → Option Text = λ o. option_map (challenge_added challenge) o in
    let L : RpReply → Option Text = λ told. (http_of c n told).location in
    ap D has ∙ ap M (ap L asks ∙ asks_at c n to browser)

pub in_the_body : (r : PartyReply) (w : Word) (message : Message) (verifier : Text) → r.inner ≡ reply.Exchange w message → r.verifier ≡ Some verifier
    → party_sending r ≡ Some (record { pending = w; message = record message { body = option_map (verifier_added verifier) message.body } })
in_the_body r w message verifier sent has =
    let V : Option Text → Option Sending = λ o. sending_with o r.inner in
    let R : RpReply → Option Sending = λ told. sending_with (Some verifier) told in
    ap V has ∙ ap R sent
