-- The replies of a past, without the values of its entries.
use Rattle.std.proofs.Common.{◌≤◌, List, [], ◌∷◌, Option}
use Rattle.sso_base.specs.Words.{fresh_word}
use Rattle.sso_base.specs.Legal.{last_moment}
use Rattle.sso_base.specs.declared.history.Pair.{Pair}
use Rattle.client_registry.specs.Configuration.{Configuration}
use Rattle.op_exchange.specs.declared.ask.OpAsk.{OpAsk}
use Rattle.op_exchange.specs.declared.reply.OpReply.{OpReply}
use Rattle.op_answer.specs.Past.{OpPair}
use Rattle.core_stack.specs.Stacked.{AreAnswered}
use Rattle.refresh_answer.specs.Around.{Outer, IsRefreshAsk}
use Rattle.refresh_answer.specs.Families.{begins}
use Rattle.refresh_answer.specs.Answering.{IsReply, own_reply, IsRefreshReply}

module _ {A R : Type 0} (plain : A → Option OpAsk) (given : R → Option OpReply) (provided : List (Pair A R) → List OpPair) where
  abbrev pub IsAnswered : Configuration → List (Outer A R) → Type 0
  IsAnswered c [] = Unit {0}
  IsAnswered c (p ∷ past) =
      IsAnswered c past × (last_moment past ≤ p.entry.at)
      × IsReply given (own_reply plain given provided c past p.entry.at p.entry.fresh p.entry.ask) (begins plain given provided past p.entry) (fresh_word p.entry.fresh 1) p.reply

  pub answered_of : (IsAsk : A → Type 0) (c : Configuration) (past : List (Outer A R)) → AreAnswered (IsRefreshAsk IsAsk) (IsRefreshReply plain given provided c) past → IsAnswered c past
  answered_of IsAsk c [] is = tt
  answered_of IsAsk c (p ∷ past) is = (answered_of IsAsk c past is.0, is.2, is.3)
