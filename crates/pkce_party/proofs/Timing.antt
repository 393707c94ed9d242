-- A step of the party inside, and the moment of its last entry.
use Rattle.std.proofs.Common.{◌≡◌, ℕ, List, [], ◌∷◌, reverse, sym, ◌∙◌, ap, subst}
use Rattle.std.proofs.lemmas.List.{reverse-append}
use Rattle.sso_base.specs.Words.{Word}
use Rattle.sso_base.specs.Legal.{last_moment}
use Rattle.sso_base.specs.Journal.{extended}
use Rattle.sso_base.specs.declared.history.Entry.{Entry}
use Rattle.rp_exchange.specs.declared.ask.RpAsk.{RpAsk}
use Rattle.rp_exchange.specs.declared.reply.RpReply.{RpReply}
use Rattle.rp_answer.specs.Past.{RpPair, RpPast}
use Rattle.rp_answer.specs.Setup.{PartySetup}
use Rattle.rp_answer.specs.Answering.{rp_answer}
use Rattle.rp_answer.specs.Legal.{IsLegalRp, IsLegalHistory}
use Rattle.rp_core.specs.Relying.{Relying, past_of}
use Rattle.pkce_party.specs.Keeping.{later, Steps}

module _ (before after : Relying) (at : ℕ) (fresh : List Word) (asked : RpAsk) (told : RpReply)
    (adds : after.history ≡ extended before.history at fresh asked told) where
  abbrev entry : Entry RpAsk
  entry = record { at = later (last_moment (past_of before)) at; fresh = fresh; ask = asked }

  abbrev pair : RpPair
  pair = record { entry = entry; reply = told }

  past_is : past_of after ≡ pair ∷ past_of before
  past_is = ap (λ (h : List RpPair). reverse h) adds ∙ reverse-append before.history (pair ∷ [])

  -- the moment of the new entry
  pub last_is : (last now : ℕ) → last ≡ last_moment (past_of before) → now ≡ later last at → now ≡ last_moment (past_of after)
  last_is last now held is =
      let L : ℕ → ℕ = λ n. later n at in
      let P : RpPast → ℕ = λ past. last_moment past in
      is ∙ ap L held ∙ ap P (sym past_is)

  pub steps : after.setup ≡ before.setup → IsLegalHistory after.setup after.history → Steps before after at fresh asked told
  steps setup legal =
      let L : RpPast → Type 0 = λ past. IsLegalRp after.setup past in
      let S : PartySetup → RpReply = λ s. rp_answer s (past_of before) entry in
      record {
        setup = setup;
        past = past_is;
        answer_is = (subst L past_is legal.past).3 ∙ ap S setup;
        legal = legal.past;
        light = legal.light;
      }
