-- Legal histories of a core that stands around another one. B and T are its requests and replies, A and R those of the inner core.
-- `passed` gives the pair of the inner core of an entry that was passed on.
use Rattle.std.specs.Prelude.{◌≡◌, ◌≤◌, ℕ, false, List, [], ◌∷◌, ◌++◌, reverse, filter_map, Option, Some, None}
use Rattle.sso_base.specs.Legal.{last_moment, IsEntry}
use Rattle.sso_base.specs.Journal.{history_weight}
use Rattle.sso_base.specs.declared.history.Entry.{Entry}
use Rattle.sso_base.specs.declared.history.Pair.{Pair}
use Rattle.client_registry.specs.Configuration.{Configuration}
use Rattle.op_exchange.specs.declared.ask.OpAsk.{OpAsk}
use Rattle.op_exchange.specs.declared.reply.OpReply.{OpReply}
use Rattle.op_answer.specs.Past.{OpPair}
use Rattle.op_answer.specs.Legal.{IsLegalOp}
use Rattle.core_stack.specs.Stacks.{may_be_own, AddsGiven}

module _ {B T : Type 0} (IsAsk : B → Type 0) (IsReply : List (Pair B T) → Entry B → T → Type 0) where
  -- in a past, newest pair first: each entry has possible values and gets a reply of this core, and time never goes back
  abbrev pub AreAnswered : List (Pair B T) → Type 0
  AreAnswered [] = Unit {0}
  AreAnswered (p ∷ past) =
      AreAnswered past × IsEntry IsAsk p.entry × (last_moment past ≤ p.entry.at) × IsReply past p.entry p.reply

-- a core around another one shows the inner core's requests and replies in those that it passed on, and the provider gave none of the
-- replies that it gives by itself
pub record IsAround
    {A R B T : Type 0} (plain : A → Option OpAsk) (given : R → Option OpReply) (outer_plain : B → Option OpAsk)
    (outer_given : T → Option OpReply) (passed : Pair B T → Option (Pair A R)) : Type 0 where
  pub own : (p : Pair B T) → passed p ≡ None → outer_given p.reply ≡ None
  pub moment : (p : Pair B T) (q : Pair A R) → passed p ≡ Some q → q.entry.at ≡ p.entry.at
  pub words : (p : Pair B T) (q : Pair A R) → passed p ≡ Some q → q.entry.fresh ≡ p.entry.fresh
  pub request : (p : Pair B T) (q : Pair A R) → passed p ≡ Some q → plain q.entry.ask ≡ outer_plain p.entry.ask
  pub reply : (p : Pair B T) (q : Pair A R) → passed p ≡ Some q → given q.reply ≡ outer_given p.reply

-- a history, oldest pair first, with these replies, which weighs no more than the limit; what was passed on is a legal history of the
-- inner core
pub record IsLegalStack
    {A R B T S : Type 0} (IsAsk : B → Type 0) (IsReply : List (Pair B T) → Entry B → T → Type 0)
    (passed : Pair B T → Option (Pair A R)) (weighs : B → ℕ) (most : S → ℕ) (IsLegalInner : S → List (Pair A R) → Type 0) (s : S)
    (h : List (Pair B T)) : Type 0 where
  pub answered : AreAnswered IsAsk IsReply (reverse h)
  pub inner : IsLegalInner s (filter_map passed h)
  pub light : history_weight weighs h ≤ most s

-- what the laws of `Provides` say of the legal histories of one core, whose provider has this configuration; they need no weights
pub record IsStack
    {A R : Type 0} (plain : A → Option OpAsk) (given : R → Option OpReply) (provided : List (Pair A R) → List OpPair)
    (IsLegal : List (Pair A R) → Type 0) (c : Configuration) : Type 0 where
  pub begins : provided [] ≡ []
  pub beginnings : (front rest : List (Pair A R)) → IsLegal (front ++ rest) → IsLegal front
  pub provider : (h : List (Pair A R)) → IsLegal h → IsLegalOp c (reverse (provided h))
  pub adds : (h : List (Pair A R)) (p : Pair A R) → IsLegal (h ++ p ∷ [])
      → AddsGiven p.entry.at p.entry.fresh (plain p.entry.ask) (given p.reply) (provided h) (provided (h ++ p ∷ []))

-- The provider's history in one history of a core, oldest pair first, whatever it weighs: it is legal, each step of the core added to it
-- what the provider gave, and the provider gave all but refusals. `told` gives the provider's reply in a reply, whoever gave it.
pub record IsProvided
    {A R : Type 0} (plain : A → Option OpAsk) (told given : R → Option OpReply) (provided : List (Pair A R) → List OpPair)
    (c : Configuration) (h : List (Pair A R)) : Type 0 where
  pub provider : IsLegalOp c (reverse (provided h))
  pub adds : (front rest : List (Pair A R)) (p : Pair A R) → h ≡ front ++ p ∷ rest
      → AddsGiven p.entry.at p.entry.fresh (plain p.entry.ask) (given p.reply) (provided front) (provided (front ++ p ∷ []))
  pub gives : (front rest : List (Pair A R)) (p : Pair A R) (r : OpReply) → h ≡ front ++ p ∷ rest → told p.reply ≡ Some r
      → may_be_own r ≡ false → given p.reply ≡ Some r
