-- Laws of the histories of a relying party with proof keys. Each is a clause of a function of `law.rt`, which says it in words.
use Rattle.std.specs.Prelude.{◌≡◌, ◌≢◌, ℕ, true, List, ◌∷◌, ◌++◌, reverse, Option, Some, option_map, Result, Ok}
use Rattle.sso_base.specs.Words.{Word, Text, is_word, fresh_word, word_text}
use Rattle.sso_base.specs.Drawn.{IsDrawn}
use Rattle.sso_base.specs.declared.history.Entry.{Entry}
use Rattle.sso_base.specs.declared.message.Message.{Message}
use Rattle.id_token.specs.declared.claims.IdClaims.{IdClaims}
use Rattle.id_token.specs.declared.no.IdNo.{IdNo}
use Rattle.auth_answer.specs.declared.heard.Heard.{Heard}
use Rattle.client_registry.specs.Configuration.{Configuration}
use Rattle.rp_exchange.specs.declared.ask.RpAsk.{RpAsk}
use Rattle.rp_exchange.specs.declared.ask.RpAsk.TheVariants as ask
use Rattle.rp_exchange.specs.declared.reply.RpReply.TheVariants as reply
use Rattle.rp_answer.specs.Setup.{PartySetup, party_of}
use Rattle.pkce_answer.specs.Challenges.{challenge_of}
use Rattle.pkce_party.specs.declared.reply.PartyReply.{PartyReply}
use Rattle.pkce_party.specs.Adding.{PartyPair, PartyPast, IsLegalPartyPast}
use Rattle.pkce_party.specs.Telling.{challenge_added, party_http, verifier_added, party_sending}

-- this pair is in the history, after these earlier pairs and before these later ones
abbrev pub IsAmong : List PartyPair → PartyPast → PartyPair → PartyPast → Type 0
IsAmong history later p earlier = reverse history ≡ later ++ p ∷ earlier

-- ---- authorization requests

abbrev pub AuthorizationRequestsHaveAChallenge : Type 0
AuthorizationRequestsHaveAChallenge =
    (s : PartySetup) (history : List PartyPair) (later earlier : PartyPast) (p : PartyPair) (to : Text) (browser : Word)
    → IsLegalPartyPast s (reverse history) → IsAmong history later p earlier → (party_of s).types.code ≡ true → p.reply.inner ≡ reply.Ask to browser
    → p.reply.challenge ≡ Some (challenge_of (word_text (fresh_word p.entry.fresh 3)))

-- no other reply has one
abbrev pub ChallengesAreInAuthorizationRequests : Type 0
ChallengesAreInAuthorizationRequests =
    (s : PartySetup) (history : List PartyPair) (later earlier : PartyPast) (p : PartyPair) (challenge : Text)
    → IsLegalPartyPast s (reverse history) → IsAmong history later p earlier → p.reply.challenge ≡ Some challenge
    → (to : Text) × (browser : Word) × (p.reply.inner ≡ reply.Ask to browser)

-- ---- token requests

abbrev pub TokenRequestsHaveAVerifier : Type 0
TokenRequestsHaveAVerifier =
    (s : PartySetup) (history : List PartyPair) (later earlier : PartyPast) (p : PartyPair) (w : Word) (message : Message)
    → IsLegalPartyPast s (reverse history) → IsAmong history later p earlier → p.reply.inner ≡ reply.Exchange w message
    → (verifier : Text) × (p.reply.verifier ≡ Some verifier)

-- no other reply has one
abbrev pub VerifiersAreInTokenRequests : Type 0
VerifiersAreInTokenRequests =
    (s : PartySetup) (history : List PartyPair) (later earlier : PartyPast) (p : PartyPair) (verifier : Text)
    → IsLegalPartyPast s (reverse history) → IsAmong history later p earlier → p.reply.verifier ≡ Some verifier
    → (w : Word) × (message : Message) × (p.reply.inner ≡ reply.Exchange w message)

-- An authorization response has the state of a login. The pair that began the login drew the verifier, and its authorization request
-- had the verifier's challenge. The browser that it was for brought the response.
pub record IsOfLogin (past : PartyPast) (e : Entry RpAsk) (verifier : Text) : Type 0 where
  pub heard : Heard
  pub id : Option (Result IdClaims IdNo)
  pub browser : Option Word
  pub responds : e.ask ≡ ask.Callback (Ok heard) id browser
  pub later : PartyPast
  pub maker : PartyPair
  pub earlier : PartyPast
  pub parts : past ≡ later ++ maker ∷ earlier
  pub presented : Option Word
  pub begins : maker.entry.ask ≡ ask.Begin presented
  pub to : Text
  pub given : Word
  pub asks : maker.reply.inner ≡ reply.Ask to given
  pub state_is : heard.state ≡ Some (fresh_word maker.entry.fresh 1)
  pub same_browser : is_word browser given ≡ true
  pub drawn : verifier ≡ word_text (fresh_word maker.entry.fresh 3)
  pub challenged : maker.reply.challenge ≡ Some (challenge_of verifier)

abbrev pub VerifiersAreOfTheirLogin : Type 0
VerifiersAreOfTheirLogin =
    (s : PartySetup) (history : List PartyPair) (later earlier : PartyPast) (p : PartyPair) (verifier : Text)
    → IsLegalPartyPast s (reverse history) → IsAmong history later p earlier → p.reply.verifier ≡ Some verifier
    → IsOfLogin earlier p.entry verifier

abbrev pub VerifiersTellTheirWords : Type 0
VerifiersTellTheirWords =
    (s : PartySetup) (history : List PartyPair) (v w : Word) → IsLegalPartyPast s (reverse history) → IsDrawn (reverse history) v
    → IsDrawn (reverse history) w → v ≢ w → word_text v ≢ word_text w

-- ---- what is sent

abbrev pub ChallengesAreInTheLocation : Type 0
ChallengesAreInTheLocation =
    (c : Configuration) (n : ℕ) (r : PartyReply) (to : Text) (browser : Word) (challenge : Text)
    → r.inner ≡ reply.Ask to browser → r.challenge ≡ Some challenge
    → (party_http c n r).location ≡ Some (challenge_added challenge to)

abbrev pub VerifiersAreInTheTokenRequest : Type 0
VerifiersAreInTheTokenRequest =
    (r : PartyReply) (w : Word) (message : Message) (verifier : Text)
    → r.inner ≡ reply.Exchange w message → r.verifier ≡ Some verifier
    → party_sending r ≡ Some (record { pending = w; message = record message { body = option_map (verifier_added verifier) message.body } })
