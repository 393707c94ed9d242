-- One step of the core, by that of the party inside.
use Rattle.std.proofs.Common.{◌≡◌, ◌≤◌, ◌<◌, ◌+◌, ℕ, nat_lt, cond, List, [], ◌∷◌, ◌++◌, reverse, sym, ◌∙◌, ap, subst}
use Rattle.std.proofs.lemmas.List.{reverse-append, reverse-reverse, append-nil}
use Rattle.sso_base.specs.Words.{Word}
use Rattle.sso_base.specs.Legal.{last_moment}
use Rattle.sso_base.specs.Journal.{most_of, history_weight, extended}
use Rattle.sso_base.specs.declared.history.Entry.{Entry}
use Rattle.oidc_words.specs.declared.response_types.Types.{Types}
use Rattle.rp_exchange.specs.declared.ask.RpAsk.{RpAsk}
use Rattle.rp_exchange.specs.declared.reply.RpReply.{RpReply}
use Rattle.rp_exchange.specs.Weight.{ask_weight}
use Rattle.rp_answer.specs.Past.{RpPair, RpPast}
use Rattle.rp_answer.specs.Setup.{PartySetup, party_of}
use Rattle.rp_core.specs.Relying.{Relying, past_of}
use Rattle.pkce_party.specs.declared.known.Known.{Known}
use Rattle.pkce_party.specs.declared.reply.PartyReply.{PartyReply}
use Rattle.pkce_party.specs.declared.rows.VerifierRow.{VerifierRow}
use Rattle.pkce_party.specs.Adding.{PartyPair, added, party_reply}
use Rattle.pkce_party.specs.Keeping.{pairs_after, pairs_of, later, known_of, Steps, KeepsVerifiers, KeepsParty}
use Rattle.pkce_party.proofs.Pairing.{pairs_more, last_of_pairs, pairs_are_legal, weight_of_pairs}

-- what the party keeps after the step
pub taken_keeps : (before after : Relying) (at : ℕ) (fresh : List Word) (asked : RpAsk) (told : RpReply) (rows : List VerifierRow)
    → Steps before after at fresh asked told → KeepsVerifiers (past_of after) rows → KeepsParty after rows
taken_keeps before after at fresh asked told rows steps keeps = record { verifiers = keeps; legal = pairs_are_legal after steps.legal steps.light }

module _ (inside shown after : Relying) (view : inside ≡ shown) (at : ℕ) (fresh : List Word) (asked : RpAsk) (told : RpReply)
    (steps : Steps inside after at fresh asked told) where
  abbrev its_types : Types
  its_types = (party_of inside.setup).types

  abbrev entry : Entry RpAsk
  entry = record { at = later (last_moment (past_of inside)) at; fresh = fresh; ask = asked }

  abbrev pair : RpPair
  pair = record { entry = entry; reply = told }

  -- the history of the party inside has one more pair
  history_is : after.history ≡ inside.history ++ pair ∷ []
  history_is =
      sym (reverse-reverse after.history)
      ∙ ap (λ (past : RpPast). reverse past) steps.past
      ∙ reverse-append (pair ∷ []) (past_of inside)
      ∙ ap (λ (l : List RpPair). l ++ pair ∷ []) (reverse-reverse inside.history)

  -- and the history with the additions
  pairs_are : pairs_of after ≡ pairs_of inside ++ (record { entry = entry; reply = party_reply its_types (past_of inside) entry told }) ∷ []
  pairs_are =
      let S : PartySetup → List PartyPair = λ s. pairs_after (party_of s).types [] after.history in
      let H : List RpPair → List PartyPair = λ h. pairs_after its_types [] h in
      let P : RpPast → List PartyPair = λ past. pairs_of inside ++ (record { entry = entry; reply = party_reply its_types past entry told }) ∷ [] in
      ap S steps.setup ∙ ap H history_is ∙ pairs_more its_types [] inside.history pair ∙ ap P (append-nil (reverse inside.history))

  -- the reply with what was known
  reply_is : (k : Known) (types : Types) (out : PartyReply) → k ≡ known_of (past_of shown) at fresh asked → types ≡ its_types
      → out ≡ added types k.drawn k.held told
      → out ≡ party_reply its_types (past_of inside) entry told
  reply_is k types out known same is =
      let T : Types → PartyReply = λ t. added t k.drawn k.held told in
      let K : Known → PartyReply = λ x. added its_types x.drawn x.held told in
      let V : Relying → PartyReply = λ r. K (known_of (past_of r) at fresh asked) in
      is ∙ ap T same ∙ ap K known ∙ ap V (sym view)

  pub taken_pairs : (k : Known) (types : Types) (out : PartyReply) → k ≡ known_of (past_of shown) at fresh asked → types ≡ its_types
      → out ≡ added types k.drawn k.held told
      → pairs_of after ≡ extended (pairs_of shown) at fresh asked out
  taken_pairs k types out known same is =
      let M : ℕ → List PartyPair = λ n. pairs_of inside
      ++ (record { entry = record { at = cond (nat_lt at n) n at; fresh = fresh; ask = asked }; reply = out }) ∷ [] in
      let R : PartyReply → List PartyPair = λ r. pairs_of inside ++ (record { entry = entry; reply = r }) ∷ [] in
      let V : Relying → List PartyPair = λ r. extended (pairs_of r) at fresh asked out in
      pairs_are ∙ ap R (sym (reply_is k types out known same is)) ∙ ap M (sym (last_of_pairs inside)) ∙ ap V view

-- the weights with the additions are those without
pub taken_room : (inside shown : Relying) (asked : RpAsk) → inside ≡ shown
    → history_weight ask_weight inside.history + ask_weight asked ≤ most_of inside.setup.configuration.lasting
    → history_weight ask_weight (pairs_of shown) + ask_weight asked ≤ most_of shown.setup.configuration.lasting
taken_room inside shown asked view room =
    let W : ℕ → Type 0 = λ n. n + ask_weight asked ≤ most_of inside.setup.configuration.lasting in
    let V : Relying → Type 0 = λ r. history_weight ask_weight (pairs_of r) + ask_weight asked ≤ most_of r.setup.configuration.lasting in
    subst V view (subst W (sym (weight_of_pairs inside)) room)

pub taken_full : (inside shown : Relying) (asked : RpAsk) (w : ℕ) → inside ≡ shown
    → (w ≡ history_weight ask_weight inside.history) × (most_of inside.setup.configuration.lasting < w + ask_weight asked)
    → (w ≡ history_weight ask_weight (pairs_of shown)) × (most_of shown.setup.configuration.lasting < w + ask_weight asked)
taken_full inside shown asked w view full =
    let V : Relying → Type 0 = λ r. (w ≡ history_weight ask_weight (pairs_of r)) × (most_of r.setup.configuration.lasting < w + ask_weight asked) in
    subst V view (full.0 ∙ sym (weight_of_pairs inside), full.1)
