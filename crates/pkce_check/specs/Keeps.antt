-- The core as a value, and its invariant: what it keeps, with the inner core's history, is a legal history, and its tables are those of
-- that history.
use Rattle.std.specs.Prelude.{◌≡◌, ℕ, List, length, reverse, Option, None}
use Rattle.sso_base.specs.Legal.{last_moment}
use Rattle.sso_base.specs.Journal.{history_weight}
use Rattle.sso_base.specs.declared.history.Pair.{Pair}
use Rattle.op_exchange.specs.declared.ask.OpAsk.{OpAsk}
use Rattle.op_exchange.specs.declared.reply.OpReply.{OpReply}
use Rattle.core_stack.specs.declared.kept.Kept.{Kept}
use Rattle.core_stack.specs.declared.marks.TurnMark.{TurnMark}
use Rattle.core_stack.specs.declared.marks.CodeMark.{CodeMark}
use Rattle.core_stack.specs.Kept.{passed_count}
use Rattle.core_stack.specs.Holding.{HoldMarks}
use Rattle.pkce_answer.specs.declared.asks.PkceAsk.{PkceAsk}
use Rattle.pkce_answer.specs.declared.asks.PkceParts.{PkceParts}
use Rattle.pkce_answer.specs.Challenges.{Digest, asked_mark}
use Rattle.pkce_answer.specs.Around.{Outer, merged_history, outer_plain, outer_given, outer_weight}
use Rattle.pkce_answer.specs.Answering.{IsLegalPkce}

-- the inner core, and the history, oldest pair first
pub record Checking (P A R : Type 0) : Type 0 where
  pub inner : P
  pub history : List (Outer A R)

-- what is kept of an entry
abbrev pub KeptEntry : Type 0 → Type 0
KeptEntry A = Kept PkceParts (Pair (PkceAsk A) OpReply)

module _ {A R S : Type 0} (plain : A → Option OpAsk) (given : R → Option OpReply) (IsAsk : A → Type 0) (weighs : A → ℕ) (most : S → ℕ)
    (IsLegalInner : S → List (Pair A R) → Type 0) where
  pub record Keeps (s : S) (inner : List (Pair A R)) (kept : List (KeptEntry A)) (weight last limit : ℕ)
      (turns : List (TurnMark (Option Digest))) (codes : List (CodeMark (Option Digest))) : Type 0 where
    pub count : passed_count kept ≡ length inner
    pub weight_is : weight ≡ history_weight (outer_weight weighs) (merged_history kept inner)
    pub last_is : last ≡ last_moment (reverse (merged_history kept inner))
    pub limit_is : limit ≡ most s
    pub marks : HoldMarks (outer_plain plain) (outer_given given) asked_mark None (reverse (merged_history kept inner)) last turns codes
    pub legal : IsLegalPkce plain given IsAsk weighs most IsLegalInner s (merged_history kept inner)
