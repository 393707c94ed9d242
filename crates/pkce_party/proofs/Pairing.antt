-- A history of the party inside, with the additions: its length, its weight, its past, one more pair, and that it is legal.
use Rattle.std.proofs.Common.{◌≡◌, ◌≤◌, ◌+◌, ℕ, suc, List, [], ◌∷◌, ◌++◌, length, reverse, refl, sym, ◌∙◌, ap, subst}
use Rattle.std.proofs.lemmas.List.{reverse-append, append-nil, append_assoc}
use Rattle.std.proofs.lemmas.List.Sums.{sum_by-cons}
use Rattle.sso_base.specs.Legal.{last_moment, IsLegalBy}
use Rattle.sso_base.specs.Journal.{most_of, history_weight}
use Rattle.oidc_words.specs.declared.response_types.Types.{Types}
use Rattle.rp_exchange.specs.declared.reply.RpReply.{RpReply}
use Rattle.rp_exchange.specs.Values.{IsRpAsk}
use Rattle.rp_exchange.specs.Weight.{ask_weight}
use Rattle.rp_answer.specs.Past.{RpPair, RpPast}
use Rattle.rp_answer.specs.Setup.{PartySetup, party_of}
use Rattle.rp_answer.specs.Answering.{rp_answer}
use Rattle.rp_answer.specs.Legal.{IsLegalRp}
use Rattle.rp_core.specs.Relying.{Relying, past_of}
use Rattle.pkce_party.specs.declared.reply.PartyReply.{PartyReply}
use Rattle.pkce_party.specs.Adding.{PartyPair, PartyPast, party_reply, inner_past, party_answer, IsLegalParty}
use Rattle.pkce_party.specs.Keeping.{pairs_after, pairs_of}

abbrev of_pair : PartyPair → ℕ
of_pair p = ask_weight p.entry.ask

abbrev of_inner_pair : RpPair → ℕ
of_inner_pair p = ask_weight p.entry.ask

-- the past that a history leads to
on : (past : RpPast) (p : RpPair) (history : List RpPair) → reverse history ++ p ∷ past ≡ reverse (p ∷ history) ++ past
on past p history = sym (append_assoc (reverse history) (p ∷ []) past) ∙ ap (λ (l : RpPast). l ++ past) (sym (reverse-append (p ∷ []) history))

module _ (types : Types) where
  -- the pair after this past
  abbrev pub with_addition : RpPast → RpPair → PartyPair
  with_addition past p = record { entry = p.entry; reply = party_reply types past p.entry p.reply }

  pub pairs_length : (past : RpPast) (history : List RpPair) → length (pairs_after types past history) ≡ length history
  pairs_length past [] = refl
  pairs_length past (p ∷ history) = ap suc (pairs_length (p ∷ past) history)

  pub pairs_weight : (past : RpPast) (history : List RpPair) → history_weight ask_weight (pairs_after types past history) ≡ history_weight ask_weight history
  pairs_weight past [] = refl
  pairs_weight past (p ∷ history) =
      sum_by-cons of_pair (with_addition past p) (pairs_after types (p ∷ past) history)
      ∙ ap (λ n. ask_weight p.entry.ask + n) (pairs_weight (p ∷ past) history)
      ∙ sym (sum_by-cons of_inner_pair p history)

  pub pairs_more : (past : RpPast) (history : List RpPair) (p : RpPair)
      → pairs_after types past (history ++ p ∷ []) ≡ pairs_after types past history ++ with_addition (reverse history ++ past) p ∷ []
  pairs_more past [] p = refl
  pairs_more past (q ∷ history) p =
      let first : List PartyPair → List PartyPair = λ l. with_addition past q ∷ l in
      let last : RpPast → List PartyPair = λ l. pairs_after types past (q ∷ history) ++ with_addition l p ∷ [] in
      ap first (pairs_more (q ∷ past) history p) ∙ ap last (on past q history)

  -- a past of the party inside, with the additions
  abbrev pub past_with : RpPast → PartyPast
  past_with [] = []
  past_with (p ∷ past) = with_addition past p ∷ past_with past

  turned : (past : RpPast) (history : List RpPair) → reverse (pairs_after types past history) ++ past_with past ≡ past_with (reverse history ++ past)
  turned past [] = refl
  turned past (p ∷ history) =
      let rest : List PartyPair = pairs_after types (p ∷ past) history in
      ap (λ (l : PartyPast). l ++ past_with past) (reverse-append (with_addition past p ∷ []) rest)
      ∙ append_assoc (reverse rest) (with_addition past p ∷ []) (past_with past)
      ∙ turned (p ∷ past) history
      ∙ ap past_with (on past p history)

  pub pairs_reversed : (history : List RpPair) → reverse (pairs_after types [] history) ≡ past_with (reverse history)
  pairs_reversed history =
      sym (append-nil (reverse (pairs_after types [] history))) ∙ turned [] history ∙ ap past_with (append-nil (reverse history))

  last_with : (past : RpPast) → last_moment (past_with past) ≡ last_moment past
  last_with [] = refl
  last_with (p ∷ past) = refl

  inner_with : (past : RpPast) → inner_past (past_with past) ≡ past
  inner_with [] = refl
  inner_with (p ∷ past) = ap (λ (l : RpPast). p ∷ l) (inner_with past)

pub past_is_legal : (s : PartySetup) (past : RpPast) → IsLegalRp s past → IsLegalBy IsRpAsk (party_answer s) (past_with (party_of s).types past)
past_is_legal s [] legal = tt
past_is_legal s (p ∷ past) legal =
    let types : Types = (party_of s).types in
    let told : RpReply → PartyReply = λ r. party_reply types past p.entry r in
    let answer : RpPast → PartyReply = λ q. party_reply types q p.entry (rp_answer s q p.entry) in (
      past_is_legal s past legal.0,
      legal.1,
      subst (λ n. n ≤ p.entry.at) (sym (last_with types past)) legal.2,
      ap told legal.3 ∙ ap answer (sym (inner_with types past)),
    )

-- ---- of the party as a value

pub last_of_pairs : (r : Relying) → last_moment (reverse (pairs_of r)) ≡ last_moment (past_of r)
last_of_pairs r =
    let types : Types = (party_of r.setup).types in
    ap (λ (past : PartyPast). last_moment past) (pairs_reversed types r.history) ∙ last_with types (past_of r)

pub pairs_are_legal : (r : Relying) → IsLegalRp r.setup (past_of r) → history_weight ask_weight r.history ≤ most_of r.setup.configuration.lasting
    → IsLegalParty r.setup (pairs_of r)
pairs_are_legal r legal light =
    let types : Types = (party_of r.setup).types in
    let L : PartyPast → Type 0 = λ past. IsLegalBy IsRpAsk (party_answer r.setup) past in
    let W : ℕ → Type 0 = λ n. n ≤ most_of r.setup.configuration.lasting in
    record {
      past = subst L (sym (pairs_reversed types r.history)) (past_is_legal r.setup (past_of r) legal);
      light = subst W (sym (pairs_weight types [] r.history)) light;
    }

pub weight_of_pairs : (r : Relying) → history_weight ask_weight (pairs_of r) ≡ history_weight ask_weight r.history
weight_of_pairs r = pairs_weight (party_of r.setup).types [] r.history

pub count_of_pairs : (r : Relying) → length (pairs_of r) ≡ length r.history
count_of_pairs r = pairs_length (party_of r.setup).types [] r.history
