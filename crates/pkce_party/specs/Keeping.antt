-- What the core keeps, and how the party inside steps.
use Rattle.std.specs.Prelude.{◌≡◌, ◌≤◌, ℕ, nat_lt, true, List, [], ◌∷◌, if◌then◌else◌}
use Rattle.sso_base.specs.Words.{Word}
use Rattle.sso_base.specs.Rows.{live_rows}
use Rattle.sso_base.specs.Legal.{last_moment}
use Rattle.sso_base.specs.Journal.{history_weight, most_of}
use Rattle.oidc_words.specs.Lives.{login_life}
use Rattle.oidc_words.specs.declared.response_types.Types.{Types}
use Rattle.held_rows.specs.Held.{none_after}
use Rattle.rp_exchange.specs.declared.ask.RpAsk.{RpAsk}
use Rattle.rp_exchange.specs.declared.reply.RpReply.{RpReply}
use Rattle.rp_exchange.specs.Weight.{ask_weight}
use Rattle.rp_answer.specs.Past.{RpPair, RpPast}
use Rattle.rp_answer.specs.Setup.{party_of}
use Rattle.rp_answer.specs.Asked.{state_named}
use Rattle.rp_answer.specs.Answering.{rp_answer}
use Rattle.rp_answer.specs.Legal.{IsLegalRp}
use Rattle.rp_core.specs.Relying.{Relying, past_of}
use Rattle.pkce_party.specs.declared.known.Known.{Known}
use Rattle.pkce_party.specs.declared.rows.VerifierRow.{VerifierRow}
use Rattle.pkce_party.specs.Verifiers.{verifier_begun, row_drawn, live_verifiers, word_held}
use Rattle.pkce_party.specs.Adding.{PartyPair, party_reply, IsLegalParty}

-- ---- the history, with the additions

-- a history of the party inside, after this past of it
abbrev pub pairs_after : Types → RpPast → List RpPair → List PartyPair
pairs_after types past [] = []
pairs_after types past (p ∷ history) =
    (record { entry = p.entry; reply = party_reply types past p.entry p.reply }) ∷ pairs_after types (p ∷ past) history

abbrev pub pairs_of : Relying → List PartyPair
pairs_of r = pairs_after (party_of r.setup).types [] r.history

-- ---- one step of the party inside

-- time never goes back
abbrev pub later : ℕ → ℕ → ℕ
later last at = if nat_lt at last then last else at

-- what is known of a request at a moment, after a past
abbrev pub known_of : RpPast → ℕ → List Word → RpAsk → Known
known_of past at fresh asked = record {
  at = later (last_moment past) at;
  drawn = row_drawn (later (last_moment past) at) fresh asked;
  state = state_named asked;
  held = word_held past (later (last_moment past) at) asked;
}

-- the history gets one more pair, with the party's answer
pub record Steps (before after : Relying) (at : ℕ) (fresh : List Word) (asked : RpAsk) (answer : RpReply) : Type 0 where
  pub setup : after.setup ≡ before.setup
  pub past : past_of after
      ≡ (record { entry = record { at = later (last_moment (past_of before)) at; fresh = fresh; ask = asked }; reply = answer }) ∷ past_of before
  pub answer_is : answer
      ≡ rp_answer before.setup (past_of before) (record { at = later (last_moment (past_of before)) at; fresh = fresh; ask = asked })
  pub legal : IsLegalRp after.setup (past_of after)
  pub light : history_weight ask_weight after.history ≤ most_of after.setup.configuration.lasting

-- ---- the invariant

-- the verifiers that live are those of the past, and none begins after it
pub record KeepsVerifiers (past : RpPast) (rows : List VerifierRow) : Type 0 where
  pub agrees : live_rows login_life verifier_begun (last_moment past) rows ≡ live_verifiers past (last_moment past)
  pub begun : none_after verifier_begun (last_moment past) rows ≡ true

-- so are those of the core, whose history is legal
pub record KeepsParty (r : Relying) (rows : List VerifierRow) : Type 0 where
  pub verifiers : KeepsVerifiers (past_of r) rows
  pub legal : IsLegalParty r.setup (pairs_of r)
