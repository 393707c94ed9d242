-- The core as a value, and its invariant: what it keeps, with the inner core's history, is a legal history, and its questions are those
-- of that history. Then how one entry is decided.
use Rattle.std.specs.Prelude.{◌≡◌, ◌&&◌, ℕ, Bool, true, false, not, nat_lt, List, length, reverse, Option, Some, None, is_some, option_and_then, Result}
use Rattle.sso_base.specs.Words.{Word, Text}
use Rattle.sso_base.specs.Rows.{without, row_of, if_lives, live_rows}
use Rattle.sso_base.specs.Legal.{last_moment}
use Rattle.sso_base.specs.Journal.{history_weight, extended}
use Rattle.sso_base.specs.declared.history.Entry.{Entry}
use Rattle.sso_base.specs.declared.history.Pair.{Pair}
use Rattle.held_rows.specs.Held.{most_rows, none_after}
use Rattle.op_exchange.specs.declared.ask.OpAsk.{OpAsk}
use Rattle.core_stack.specs.declared.kept.Kept.{Kept}
use Rattle.core_stack.specs.Kept.{passed_count}
use Rattle.end_request.specs.declared.wish.EndWish.{EndWish}
use Rattle.end_request.specs.declared.wish.EndNo.{EndNo}
use Rattle.end_request.specs.Ending.{end_read}
use Rattle.signout_answer.specs.declared.asks.EndAsk.{EndAsk}
use Rattle.signout_answer.specs.declared.asks.EndAsk.TheVariants.{Start, Confirm}
use Rattle.signout_answer.specs.declared.asks.EndReply.{EndReply}
use Rattle.signout_answer.specs.declared.asks.EndSetup.{EndSetup}
use Rattle.signout_answer.specs.declared.parts.OwnReply.{OwnReply}
use Rattle.signout_answer.specs.declared.parts.OwnReply.TheVariants as own
use Rattle.signout_answer.specs.declared.parts.EndParts.{EndParts}
use Rattle.signout_answer.specs.declared.parts.EndParts.TheVariants as parts
use Rattle.signout_answer.specs.declared.parts.Doing.{Doing}
use Rattle.signout_answer.specs.declared.parts.Doing.TheVariants as does
use Rattle.signout_answer.specs.declared.questions.QuestionRow.{QuestionRow}
use Rattle.oidc_words.specs.Lives.{question_life}
use Rattle.signout_answer.specs.Questions.{question_name, question_begun}
use Rattle.signout_answer.specs.Around.{Outer, reply_around, merged_history, end_weight}
use Rattle.signout_answer.specs.Answering.{question_of, questions, SignoutSetup, IsLegalSignout}
use Rattle.rp_signout.specs.declared.decision.Verdict.{Verdict}
use Rattle.rp_signout.specs.declared.decision.Verdict.TheVariants as decided
use Rattle.rp_signout.specs.declared.decision.Decision.{Decision}
use Rattle.rp_signout.specs.declared.decision.Decision.TheVariants.{Own, Pass}

-- the setup, the inner core, and the history, oldest pair first
pub record Signing (P A R : Type 0) : Type 0 where
  pub setup : EndSetup
  pub inner : P
  pub history : List (Outer A R)

-- what is kept of an entry
abbrev pub KeptEntry : Type 0 → Type 0
KeptEntry A = Kept EndParts (Pair (EndAsk A) OwnReply)

-- the table of questions after a past: those that wait are those of the past, and none begins later
pub record HoldQuestions {A R : Type 0} (c : EndSetup) (past : List (Outer A R)) (last : ℕ) (rows : List QuestionRow) : Type 0 where
  pub live : live_rows question_life question_begun last rows ≡ live_rows question_life question_begun last (questions c past)
  pub begun : none_after question_begun last rows ≡ true

module _ {A R S : Type 0} (plain : A → Option OpAsk) (IsAsk : A → Type 0) (weighs : A → ℕ) (most : S → ℕ)
    (IsLegalInner : S → List (Pair A R) → Type 0) where
  pub record Keeps (s : SignoutSetup S) (inner : List (Pair A R)) (kept : List (KeptEntry A)) (weight last limit : ℕ)
      (rows : List QuestionRow) : Type 0 where
    pub count : passed_count kept ≡ length inner
    pub weight_is : weight ≡ history_weight (end_weight weighs) (merged_history kept inner)
    pub last_is : last ≡ last_moment (reverse (merged_history kept inner))
    pub limit_is : limit ≡ most s.inner
    pub held : HoldQuestions s.own (reverse (merged_history kept inner)) last rows
    pub legal : IsLegalSignout plain IsAsk weighs most IsLegalInner s (merged_history kept inner)

-- ---- the table

-- the rows that are left when a question ends
abbrev pub rows_left : Option Word → List QuestionRow → List QuestionRow
rows_left None rows = rows
rows_left (Some w) rows = without question_name w rows

-- fewer than 65,536 of these questions wait, and none of them has the word
abbrev pub room_in : List QuestionRow → ℕ → Word → Bool
room_in rows at w =
    nat_lt (length (live_rows question_life question_begun at rows)) most_rows
    && not (is_some (option_and_then (if_lives question_life question_begun at) (row_of question_name w rows)))

-- ---- a reply without the inner core

-- the question that it ends
abbrev pub own_ended : {A : Type 0} → EndAsk A → OwnReply → Option Word
own_ended (Confirm word agree session inner) own.Kept = word
own_ended asked told = None

-- the question that it makes, if it replies to a request to end a session
abbrev pub started_made : Option Word → ℕ → Result EndWish EndNo → OwnReply → Option QuestionRow
started_made session at read (own.Sure w) = question_of w session at read
started_made session at read told = None

-- the question that it makes
abbrev pub own_made : {A : Type 0} → EndSetup → EndAsk A → OwnReply → ℕ → Option QuestionRow
own_made c (Start form session) told at = started_made session at (end_read c.registry c.returns form) told
own_made c asked told at = None

-- ---- an entry that is passed on

-- the question that it ends
abbrev pub parts_ended : EndParts → Option Word
parts_ended parts.Through = None
parts_ended (parts.Gone word agree session back) = word

-- where the browser goes
abbrev pub parts_back : EndParts → Option Text
parts_back parts.Through = None
parts_back (parts.Gone word agree session back) = back

abbrev pub parts_doing : EndParts → Doing
parts_doing parts.Through = does.Pass
parts_doing (parts.Gone word agree session back) = does.Go back

-- it is passed on as it is, or as a `yes`
abbrev pub passing : {A : Type 0} → Option Text → EndAsk A → Doing
passing back (Confirm word agree session inner) = does.Go back
passing back asked = does.Pass

abbrev pub is_passable : {A : Type 0} → EndAsk A → Bool
is_passable (Start form session) = false
is_passable asked = true

-- the inner core has the request and replied to it, and the reply is around that reply
abbrev pub IsPassed : {A R : Type 0} → EndParts → EndReply R → List (Pair A R) → List (Pair A R) → ℕ → List Word → A → Type 0
IsPassed {A} {R} p told before after at fresh inner = (r : R) × (told ≡ reply_around p r) × (after ≡ extended before at fresh inner r)

-- ---- decisions

-- how an answer to a question is answered by a decision about it
abbrev pub confirmed_doing : Verdict → Doing
confirmed_doing (decided.Own told) = does.Own told
confirmed_doing (decided.Go back) = does.Go back

-- how the request is answered by a decision
abbrev pub done_by : {A : Type 0} → Decision → EndAsk A → Doing
done_by (Own answer) asked = does.Own answer.own
done_by (Pass back) asked = passing back asked

-- the question in a decision, and the one that the reply in it makes
abbrev pub made_in : Decision → Option QuestionRow
made_in (Own answer) = answer.made
made_in (Pass back) = None

abbrev pub made_by : {A : Type 0} → EndSetup → Entry (EndAsk A) → Decision → Option QuestionRow
made_by c e (Own answer) = own_made c e.ask answer.own e.at
made_by c e (Pass back) = None

-- a request is passed on only if it may be
abbrev pub may_pass : {A : Type 0} → Decision → EndAsk A → Bool
may_pass (Own answer) asked = true
may_pass (Pass back) asked = is_passable asked
