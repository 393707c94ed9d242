-- The party inside: its history in a history with the additions.
use Rattle.std.proofs.Common.{◌≡◌, ◌≤◌, ◌<◌, ◌+◌, ℕ, List, [], ◌∷◌, ◌++◌, reverse, Option, option_map, refl, sym, ◌∙◌, ap, subst}
use Rattle.std.proofs.lemmas.List.{reverse-append, map-append}
use Rattle.std.proofs.lemmas.List.Sums.{sum_by-cons}
use Rattle.sso_base.specs.Words.{Word, Text}
use Rattle.sso_base.specs.Legal.{last_moment, IsLegalBy}
use Rattle.sso_base.specs.Journal.{most_of, history_weight}
use Rattle.sso_base.specs.declared.message.Answered.{Answered}
use Rattle.client_registry.specs.Configuration.{Configuration}
use Rattle.rp_exchange.specs.declared.reply.RpReply.{RpReply}
use Rattle.rp_exchange.specs.declared.reply.RpReply.TheVariants.{Exchange, Fetch}
use Rattle.rp_exchange.specs.Values.{IsRpAsk}
use Rattle.rp_exchange.specs.Weight.{ask_weight}
use Rattle.rp_answer.specs.Past.{RpPair, RpPast}
use Rattle.rp_answer.specs.Setup.{PartySetup}
use Rattle.rp_answer.specs.Legal.{IsLegalRp, IsLegalHistory}
use Rattle.rp_request.specs.Prepared.{tokens_prepared, info_prepared}
use Rattle.core_stack.specs.declared.sending.Sending.{Sending}
use Rattle.core_stack.specs.Relied.{party_pair, exchange_named}
use Rattle.core_stack.specs.Rounds.{rounds_of, exchanges_end, requests_end}
use Rattle.pkce_party.specs.declared.reply.PartyReply.{PartyReply}
use Rattle.pkce_party.specs.Adding.{PartyPair, PartyPast, inner_pair, inner_past, inner_history, party_answer, IsLegalParty}
use Rattle.pkce_party.specs.Telling.{sending_with, party_sending}

abbrev pub reply_inside : PartyReply → RpReply
reply_inside reply = reply.inner

-- ---- the party's history

pub inner_more : (h : List PartyPair) (p : PartyPair) → inner_history (h ++ p ∷ []) ≡ inner_history h ++ party_pair p p.entry.ask p.reply.inner ∷ []
inner_more h p = map-append inner_pair h (p ∷ [])

pub inner_reversed : (h : List PartyPair) → reverse (inner_history h) ≡ inner_past (reverse h)
inner_reversed [] = refl
inner_reversed (p ∷ h) =
    reverse-append (inner_pair p ∷ []) (inner_history h)
    ∙ ap (λ l. l ++ inner_pair p ∷ []) (inner_reversed h)
    ∙ sym (map-append inner_pair (reverse h) (p ∷ []))
    ∙ ap inner_past (sym (reverse-append (p ∷ []) h))

inner_last : (past : PartyPast) → last_moment (inner_past past) ≡ last_moment past
inner_last [] = refl
inner_last (p ∷ past) = refl

abbrev of_pair : PartyPair → ℕ
of_pair p = ask_weight p.entry.ask

abbrev of_inner_pair : RpPair → ℕ
of_inner_pair p = ask_weight p.entry.ask

pub inner_weight : (h : List PartyPair) → history_weight ask_weight (inner_history h) ≡ history_weight ask_weight h
inner_weight [] = refl
inner_weight (p ∷ h) =
    sum_by-cons of_inner_pair (inner_pair p) (inner_history h)
    ∙ ap (λ n. ask_weight p.entry.ask + n) (inner_weight h)
    ∙ sym (sum_by-cons of_pair p h)

-- ---- it is legal

pub past_inside : (s : PartySetup) (past : PartyPast) → IsLegalBy IsRpAsk (party_answer s) past → IsLegalRp s (inner_past past)
past_inside s [] legal = tt
past_inside s (p ∷ past) legal = (
  past_inside s past legal.0,
  legal.1,
  subst (λ n. n ≤ p.entry.at) (sym (inner_last past)) legal.2,
  ap (λ (r : PartyReply). r.inner) legal.3,
)

pub inner_is_legal : (s : PartySetup) (h : List PartyPair) → IsLegalParty s h → IsLegalHistory s (inner_history h)
inner_is_legal s h legal =
    record {
      past = subst (λ (past : RpPast). IsLegalRp s past) (sym (inner_reversed h)) (past_inside s (reverse h) legal.past);
      light = subst (λ n. n ≤ most_of s.configuration.lasting) (sym (inner_weight h)) legal.light;
    }

newest_is_legal : (s : PartySetup) (h : List PartyPair) (p : PartyPair) → IsLegalParty s (h ++ p ∷ [])
    → IsLegalHistory s (inner_history h ++ inner_pair p ∷ [])
newest_is_legal s h p legal =
    subst (λ (history : List RpPair). IsLegalHistory s history) (map-append inner_pair h (p ∷ [])) (inner_is_legal s (h ++ p ∷ []) legal)

-- ---- its requests to the provider

sends_by : (verifier : Option Text) (reply : RpReply) → option_map (λ (s : Sending). s.pending) (sending_with verifier reply) ≡ exchange_named reply
sends_by verifier (Exchange pending message) = refl
sends_by verifier (Fetch pending message) = refl
sends_by verifier reply = refl

pub sends_as_named : (r : PartyReply) → option_map (λ (s : Sending). s.pending) (party_sending r) ≡ exchange_named (reply_inside r)
sends_as_named r = sends_by r.verifier r.inner

pub tokens_end_exchanges :
    (c : Configuration) (n : ℕ) (s : PartySetup) (h : List PartyPair) (p : PartyPair) (w : Word) (response : Answered)
    → IsLegalParty s (h ++ p ∷ []) → p.entry.ask ≡ tokens_prepared c n w response → rounds_of (reply_inside p.reply) < 2
tokens_end_exchanges c n s h p w response legal asked =
    exchanges_end c n s (inner_history h) (inner_pair p) w response (newest_is_legal s h p legal) asked

pub info_ends_requests :
    (s : PartySetup) (h : List PartyPair) (p : PartyPair) (w : Word) (response : Answered)
    → IsLegalParty s (h ++ p ∷ []) → p.entry.ask ≡ info_prepared w response → rounds_of (reply_inside p.reply) < 1
info_ends_requests s h p w response legal asked =
    requests_end s (inner_history h) (inner_pair p) w response (newest_is_legal s h p legal) asked
