-- What a relying party with proof keys replies (RFC 7636, 4.3 and 4.5), and which of its histories are legal. Each entry is passed to
-- the party inside; two of its replies get an addition.
use Rattle.std.specs.Prelude.{List, map, Option, None, option_map}
use Rattle.sso_base.specs.Words.{Word, Text, word_text}
use Rattle.sso_base.specs.Legal.{IsLegalBy}
use Rattle.sso_base.specs.Journal.{most_of, IsLegalHistoryBy}
use Rattle.sso_base.specs.declared.history.Entry.{Entry}
use Rattle.sso_base.specs.declared.history.Pair.{Pair}
use Rattle.oidc_words.specs.declared.response_types.Types.{Types}
use Rattle.rp_exchange.specs.declared.ask.RpAsk.{RpAsk}
use Rattle.rp_exchange.specs.declared.reply.RpReply.{RpReply}
use Rattle.rp_exchange.specs.declared.reply.RpReply.TheVariants.{Ask, Exchange}
use Rattle.rp_exchange.specs.Values.{IsRpAsk}
use Rattle.rp_exchange.specs.Weight.{ask_weight}
use Rattle.rp_answer.specs.Past.{RpPair, RpPast}
use Rattle.rp_answer.specs.Setup.{PartySetup, party_of}
use Rattle.rp_answer.specs.Asked.{if_wanted}
use Rattle.rp_answer.specs.Answering.{rp_answer}
use Rattle.pkce_answer.specs.Challenges.{challenge_of}
use Rattle.pkce_party.specs.declared.rows.VerifierRow.{VerifierRow}
use Rattle.pkce_party.specs.declared.reply.PartyReply.{PartyReply}
use Rattle.pkce_party.specs.Verifiers.{row_drawn, word_held}

abbrev pub PartyPair : Type 0
PartyPair = Pair RpAsk PartyReply

abbrev pub PartyPast : Type 0
PartyPast = List PartyPair

-- ---- the additions

-- an authorization request gets the challenge of the verifier that was drawn for its login
abbrev pub challenge_for : Option VerifierRow → RpReply → Option Text
challenge_for drawn (Ask to browser) = option_map (λ (row : VerifierRow). challenge_of (word_text row.word)) drawn
challenge_for drawn reply = None

-- a token request gets the verifier of the login whose code it exchanges
abbrev pub verifier_for : Option Word → RpReply → Option Text
verifier_for held (Exchange pending message) = option_map word_text held
verifier_for held reply = None

-- if the response type has a code
abbrev pub added : Types → Option VerifierRow → Option Word → RpReply → PartyReply
added types drawn held reply = record {
  inner = reply;
  challenge = if_wanted types.code (challenge_for drawn reply);
  verifier = if_wanted types.code (verifier_for held reply);
}

-- a reply of the party inside to this entry, after this past of it, with the additions
abbrev pub party_reply : Types → RpPast → Entry RpAsk → RpReply → PartyReply
party_reply types past e reply = added types (row_drawn e.at e.fresh e.ask) (word_held past e.at e.ask) reply

-- ---- the party inside

abbrev pub inner_pair : PartyPair → RpPair
inner_pair p = record { entry = p.entry; reply = p.reply.inner }

-- its past, newest first, and its history, oldest first
abbrev pub inner_past : PartyPast → RpPast
inner_past past = map inner_pair past

abbrev pub inner_history : List PartyPair → List RpPair
inner_history history = map inner_pair history

-- ---- the answer

-- the answer of the party inside, with the additions
abbrev pub party_answer : PartySetup → PartyPast → Entry RpAsk → PartyReply
party_answer s past e = party_reply (party_of s).types (inner_past past) e (rp_answer s (inner_past past) e)

-- a past, newest first, whose replies are the answers, whatever it weighs
abbrev pub IsLegalPartyPast : PartySetup → PartyPast → Type 0
IsLegalPartyPast s past = IsLegalBy IsRpAsk (party_answer s) past

-- a history, oldest first, whose replies are the answers, and that weighs no more than the limit of the configuration
abbrev pub IsLegalParty : PartySetup → List PartyPair → Type 0
IsLegalParty s history = IsLegalHistoryBy IsRpAsk (party_answer s) ask_weight (most_of s.configuration.lasting) history
