-- One more pair of a core that stands around another one, and what it adds to the provider's history. It needs facts of this pair alone,
-- so a core may use them where only its legal pairs have them.
use Rattle.std.proofs.Common.{◌≡◌, ℕ, List, [], ◌∷◌, ◌++◌, filter_map, Option, Some, None, sym, ap, subst, inl, inr}
use Rattle.sso_base.specs.Words.{Word}
use Rattle.sso_base.specs.declared.history.Pair.{Pair}
use Rattle.sso_base.proofs.RowLaws.{option_cases}
use Rattle.op_exchange.specs.declared.ask.OpAsk.{OpAsk}
use Rattle.op_exchange.specs.declared.reply.OpReply.{OpReply}
use Rattle.op_answer.specs.Past.{OpPair}
use Rattle.core_stack.specs.Stacks.{AddsGiven}
use Rattle.core_stack.proofs.Passing.{own_adds_none, passed_adds_one}

-- the pair of the inner core shows the same of the provider
pub record ShowsSame {A R B T : Type 0} (plain : A → Option OpAsk) (given : R → Option OpReply) (outer_plain : B → Option OpAsk) (outer_given : T → Option OpReply) (p : Pair B T) (q : Pair A R) : Type 0 where
  pub moment : q.entry.at ≡ p.entry.at
  pub words : q.entry.fresh ≡ p.entry.fresh
  pub request : plain q.entry.ask ≡ outer_plain p.entry.ask
  pub reply : given q.reply ≡ outer_given p.reply

module _ {A R B T : Type 0} (plain : A → Option OpAsk) (given : R → Option OpReply) (outer_plain : B → Option OpAsk) (outer_given : T → Option OpReply) (passed : Pair B T → Option (Pair A R))
    (provided : List (Pair A R) → List OpPair) (h : List (Pair B T)) (p : Pair B T) where
  abbrev before : List OpPair
  before = provided (filter_map passed h)

  abbrev after : List OpPair
  after = provided (filter_map passed (h ++ p ∷ []))

  own_adds : passed p ≡ None → outer_given p.reply ≡ None → AddsGiven p.entry.at p.entry.fresh (outer_plain p.entry.ask) (outer_given p.reply) before after
  own_adds none gave =
      let P : List (Pair A R) → List OpPair = λ l. provided l in
      let G : Option OpReply → Type 0 = λ g. AddsGiven p.entry.at p.entry.fresh (outer_plain p.entry.ask) g before after in
      subst G (sym gave) (inl (ap P (own_adds_none passed h p none)))

  passed_adds : (q : Pair A R) → passed p ≡ Some q → ShowsSame plain given outer_plain outer_given p q
      → AddsGiven q.entry.at q.entry.fresh (plain q.entry.ask) (given q.reply) before (provided (filter_map passed h ++ q ∷ []))
      → AddsGiven p.entry.at p.entry.fresh (outer_plain p.entry.ask) (outer_given p.reply) before after
  passed_adds q is shows adds =
      let L : List (Pair A R) → Type 0 = λ l. AddsGiven q.entry.at q.entry.fresh (plain q.entry.ask) (given q.reply) before (provided l) in
      let M : ℕ → Type 0 = λ n. AddsGiven n q.entry.fresh (plain q.entry.ask) (given q.reply) before after in
      let W : List Word → Type 0 = λ f. AddsGiven p.entry.at f (plain q.entry.ask) (given q.reply) before after in
      let Q : Option OpAsk → Type 0 = λ a. AddsGiven p.entry.at p.entry.fresh a (given q.reply) before after in
      let G : Option OpReply → Type 0 = λ g. AddsGiven p.entry.at p.entry.fresh (outer_plain p.entry.ask) g before after in
      subst G shows.reply (subst Q shows.request (subst W shows.words (subst M shows.moment (subst L (sym (passed_adds_one passed h p q is)) adds))))

  pub one_adds : (passed p ≡ None → outer_given p.reply ≡ None) → ((q : Pair A R) → passed p ≡ Some q → ShowsSame plain given outer_plain outer_given p q)
      → ((q : Pair A R) → passed p ≡ Some q → AddsGiven q.entry.at q.entry.fresh (plain q.entry.ask) (given q.reply) before (provided (filter_map passed h ++ q ∷ [])))
      → AddsGiven p.entry.at p.entry.fresh (outer_plain p.entry.ask) (outer_given p.reply) before after
  one_adds own shows adds = elim (option_cases (passed p)) [ inl none ↦ own_adds none (own none) | inr some ↦ passed_adds some.0 some.1 (shows some.0 some.1) (adds some.0 some.1) ]
