-- A core that stands around another one is a core that the provider is in, with the same history of the provider.
use Rattle.std.proofs.Common.{◌≡◌, ℕ, List, [], ◌∷◌, ◌++◌, filter_map, Option, Some, None, sym, ap, ◌∙◌, subst, inl, inr}
use Rattle.sso_base.specs.Words.{Word}
use Rattle.sso_base.specs.declared.history.Entry.{Entry}
use Rattle.sso_base.specs.declared.history.Pair.{Pair}
use Rattle.sso_base.specs.declared.message.Message.{Message}
use Rattle.sso_base.proofs.RowLaws.{option_cases}
use Rattle.client_registry.specs.Configuration.{Configuration}
use Rattle.op_exchange.specs.declared.ask.OpAsk.{OpAsk}
use Rattle.op_exchange.specs.declared.reply.OpReply.{OpReply}
use Rattle.op_answer.specs.Past.{OpPair}
use Rattle.core_stack.specs.Stacks.{AddsGiven, AreNotices}
use Rattle.core_stack.specs.Stacked.{IsAround, IsLegalStack, IsStack}
use Rattle.core_stack.proofs.Added.{no_more}
use Rattle.core_stack.proofs.Passing.{own_adds_none, passed_adds_one, beginning_is_legal}

module _ {A R B T : Type 0} (plain : A → Option OpAsk) (given : R → Option OpReply) (outer_plain : B → Option OpAsk) (outer_given : T → Option OpReply) (passed : Pair B T → Option (Pair A R))
    (is_around : IsAround plain given outer_plain outer_given passed) (provided : List (Pair A R) → List OpPair) where
  own_adds : (h : List (Pair B T)) (p : Pair B T) → passed p ≡ None
      → AddsGiven p.entry.at p.entry.fresh (outer_plain p.entry.ask) (outer_given p.reply) (provided (filter_map passed h)) (provided (filter_map passed (h ++ p ∷ [])))
  own_adds h p none =
      let P : List (Pair A R) → List OpPair = λ l. provided l in
      let G : Option OpReply → Type 0 = λ g. AddsGiven p.entry.at p.entry.fresh (outer_plain p.entry.ask) g (provided (filter_map passed h)) (provided (filter_map passed (h ++ p ∷ []))) in
      subst G (sym (is_around.own p none)) (inl (ap P (own_adds_none passed h p none)))

  passed_adds : (h : List (Pair B T)) (p : Pair B T) (q : Pair A R) → passed p ≡ Some q
      → AddsGiven q.entry.at q.entry.fresh (plain q.entry.ask) (given q.reply) (provided (filter_map passed h)) (provided (filter_map passed h ++ q ∷ []))
      → AddsGiven p.entry.at p.entry.fresh (outer_plain p.entry.ask) (outer_given p.reply) (provided (filter_map passed h)) (provided (filter_map passed (h ++ p ∷ [])))
  passed_adds h p q is adds =
      let before : List OpPair = provided (filter_map passed h) in
      let after : List OpPair = provided (filter_map passed (h ++ p ∷ [])) in
      let L : List (Pair A R) → Type 0 = λ l. AddsGiven q.entry.at q.entry.fresh (plain q.entry.ask) (given q.reply) before (provided l) in
      let M : ℕ → Type 0 = λ n. AddsGiven n q.entry.fresh (plain q.entry.ask) (given q.reply) before after in
      let W : List Word → Type 0 = λ f. AddsGiven p.entry.at f (plain q.entry.ask) (given q.reply) before after in
      let Q : Option OpAsk → Type 0 = λ a. AddsGiven p.entry.at p.entry.fresh a (given q.reply) before after in
      let G : Option OpReply → Type 0 = λ g. AddsGiven p.entry.at p.entry.fresh (outer_plain p.entry.ask) g before after in
      subst G (is_around.reply p q is) (subst Q (is_around.request p q is) (subst W (is_around.words p q is) (subst M (is_around.moment p q is) (subst L (sym (passed_adds_one passed h p q is)) adds))))

  pub outer_adds : (h : List (Pair B T)) (p : Pair B T)
      → ((q : Pair A R) → passed p ≡ Some q → AddsGiven q.entry.at q.entry.fresh (plain q.entry.ask) (given q.reply) (provided (filter_map passed h)) (provided (filter_map passed h ++ q ∷ [])))
      → AddsGiven p.entry.at p.entry.fresh (outer_plain p.entry.ask) (outer_given p.reply) (provided (filter_map passed h)) (provided (filter_map passed (h ++ p ∷ [])))
  outer_adds h p adds = elim (option_cases (passed p)) [ inl none ↦ own_adds h p none | inr some ↦ passed_adds h p some.0 some.1 (adds some.0 some.1) ]

-- a reply to what was passed on has the messages of the inner core's reply, and any other reply has none
module _ {A R B T : Type 0} (passed : Pair B T → Option (Pair A R)) (provided : List (Pair A R) → List OpPair) (notices : Option (List Message)) (h : List (Pair B T)) (p : Pair B T) where
  quiet_adds : passed p ≡ None → notices ≡ None → AreNotices notices (provided (filter_map passed h)) (provided (filter_map passed (h ++ p ∷ [])))
  quiet_adds none quiet =
      let before : List OpPair = provided (filter_map passed h) in
      let after : List OpPair = provided (filter_map passed (h ++ p ∷ [])) in
      let P : List (Pair A R) → List OpPair = λ l. provided l in
      let same : after ≡ before = ap P (own_adds_none passed h p none) in
      let N : Option (List Message) → Type 0 = λ o. AreNotices o before after in
      let adds_none : N None = λ q more. absurd (no_more before q (sym same ∙ more)) in
      subst N (sym quiet) adds_none

  pub outer_notices_are : (passed p ≡ None → notices ≡ None)
      → ((q : Pair A R) → passed p ≡ Some q → AreNotices notices (provided (filter_map passed h)) (provided (filter_map passed h ++ q ∷ [])))
      → AreNotices notices (provided (filter_map passed h)) (provided (filter_map passed (h ++ p ∷ [])))
  outer_notices_are quiet inner =
      let L : List (Pair A R) → Type 0 = λ l. AreNotices notices (provided (filter_map passed h)) (provided l) in
      elim (option_cases (passed p)) [
        | inl none ↦ quiet_adds none (quiet none)
        | inr some ↦ subst L (sym (passed_adds_one passed h p some.0 some.1)) (inner some.0 some.1)
      ]

-- what was passed on is legal inside
pub legal_inside : {A R B T S : Type 0} (IsAsk : B → Type 0) (IsReply : List (Pair B T) → Entry B → T → Type 0) (passed : Pair B T → Option (Pair A R)) (weighs : B → ℕ) (most : S → ℕ)
    (IsLegalInner : S → List (Pair A R) → Type 0) (s : S) (h : List (Pair B T)) (p : Pair B T) (q : Pair A R) → passed p ≡ Some q
    → IsLegalStack IsAsk IsReply passed weighs most IsLegalInner s (h ++ p ∷ []) → IsLegalInner s (filter_map passed h ++ q ∷ [])
legal_inside {A} {R} IsAsk IsReply passed weighs most IsLegalInner s h p q is legal =
    let I : List (Pair A R) → Type 0 = λ l. IsLegalInner s l in
    subst I (passed_adds_one passed h p q is) legal.inner

pub stack_of : {A R B T S : Type 0} (plain : A → Option OpAsk) (given : R → Option OpReply) (outer_plain : B → Option OpAsk) (outer_given : T → Option OpReply) (passed : Pair B T → Option (Pair A R))
    → IsAround plain given outer_plain outer_given passed → (provided : List (Pair A R) → List OpPair) (IsAsk : B → Type 0) (IsReply : List (Pair B T) → Entry B → T → Type 0) (weighs : B → ℕ) (most : S → ℕ)
    (IsLegalInner : S → List (Pair A R) → Type 0) → ((s : S) (front rest : List (Pair A R)) → IsLegalInner s (front ++ rest) → IsLegalInner s front)
    → (s : S) (c : Configuration) → IsStack plain given provided (IsLegalInner s) c
    → IsStack outer_plain outer_given (λ h. provided (filter_map passed h)) (IsLegalStack IsAsk IsReply passed weighs most IsLegalInner s) c
stack_of plain given outer_plain outer_given passed is_around provided IsAsk IsReply weighs most IsLegalInner beginnings s c stack =
    record {
      begins = stack.begins;
      beginnings = λ front rest legal. beginning_is_legal IsAsk IsReply passed weighs most IsLegalInner beginnings s front rest legal;
      provider = λ h legal. stack.provider (filter_map passed h) legal.inner;
      adds = λ h p legal. outer_adds plain given outer_plain outer_given passed is_around provided h p
          (λ q is. stack.adds (filter_map passed h) q (legal_inside IsAsk IsReply passed weighs most IsLegalInner s h p q is legal));
    }
