-- The replies of the core (RP-Initiated Logout 1.0, 2, 3 and 6). It stands around an inner core, whose requests and replies are A and
-- R. `plain` gives the provider's request in a request.
use Rattle.std.specs.Prelude.{◌≡◌, ◌+◌, ℕ, Bool, true, false, not, ◌&&◌, ◌||◌, nat_le, nat_lt, List, length, Option, Some, None, is_some}
use Rattle.std.specs.Prelude.{option_and_then, Result, Ok, Err, if◌then◌else◌}
use Rattle.std.specs.Str.{bytes_eq}
use Rattle.sso_base.specs.Words.{Word, fresh_word}
use Rattle.sso_base.specs.Rows.{rows_by, live_rows}
use Rattle.sso_base.specs.Weights.{most_held, text_bytes}
use Rattle.sso_base.specs.declared.history.Entry.{Entry}
use Rattle.sso_base.specs.declared.history.Pair.{Pair}
use Rattle.held_rows.specs.Held.{most_rows}
use Rattle.op_exchange.specs.declared.ask.OpAsk.{OpAsk}
use Rattle.op_exchange.specs.declared.ask.OpAsk.TheVariants.{SignOut}
use Rattle.core_stack.specs.Stacked.{IsLegalStack}
use Rattle.end_request.specs.declared.wish.EndWish.{EndWish}
use Rattle.end_request.specs.declared.wish.EndNo.{EndNo}
use Rattle.end_request.specs.Ending.{end_read, location}
use Rattle.signout_answer.specs.declared.asks.EndAsk.{EndAsk}
use Rattle.signout_answer.specs.declared.asks.EndAsk.TheVariants.{Through, Start, Confirm}
use Rattle.signout_answer.specs.declared.asks.EndReply.{EndReply}
use Rattle.signout_answer.specs.declared.asks.EndReply.TheVariants as reply
use Rattle.signout_answer.specs.declared.asks.EndSetup.{EndSetup}
use Rattle.signout_answer.specs.declared.parts.OwnReply.TheVariants.{Sure, Wrong, Kept, Stale, Full}
use Rattle.signout_answer.specs.declared.parts.Doing.{Doing}
use Rattle.signout_answer.specs.declared.parts.Doing.TheVariants.{Own, Pass, Go}
use Rattle.signout_answer.specs.declared.questions.QuestionRow.{QuestionRow}
use Rattle.oidc_words.specs.Lives.{question_life}
use Rattle.signout_answer.specs.Questions.{question_name, question_begun, held_in, unless_ended}
use Rattle.signout_answer.specs.Around.{Outer, IsEndAsk, passed, own_reply, end_weight}

-- ---- which questions a pair makes and ends

abbrev pub question_of : Word → Option Word → ℕ → Result EndWish EndNo → Option QuestionRow
question_of w session at (Ok wish) = Some (record { word = w; session = session; wish = wish; begun = at })
question_of w session at (Err why) = None

-- a request that is answered by a question makes it, with the session that it presents and its wish
abbrev pub question_by : {A R : Type 0} → EndSetup → EndAsk A → EndReply R → ℕ → Option QuestionRow
question_by c (Start form session) (reply.Sure w) at = question_of w session at (end_read c.registry c.returns form)
question_by c asked told at = None

-- a question ends when it is answered
abbrev pub ended_by : {A R : Type 0} → EndAsk A → EndReply R → Option Word
ended_by (Confirm word agree session inner) reply.Kept = word
ended_by (Confirm word agree session inner) (reply.Gone back r) = word
ended_by asked told = None

-- ---- a request to end a session

-- the bytes of the texts that a question holds because of a request
abbrev pub wish_held : EndWish → ℕ
wish_held wish = text_bytes wish.back + text_bytes wish.state

-- a server whose history lasts keeps little of one request
abbrev pub is_small : EndSetup → EndWish → Bool
is_small c wish = not c.registry.lasting || nat_le (wish_held wish) most_held

abbrev pub question_doing : Bool → Word → Doing
question_doing true w = Own (Sure w)
question_doing false w = Own Full

-- it is refused, or the user is asked, if there is room for a question
abbrev pub start_doing : EndSetup → Bool → Word → Result EndWish EndNo → Doing
start_doing c room w (Err why) = Own (Wrong why)
start_doing c room w (Ok wish) = question_doing (room && is_small c wish) w

-- ---- the answer to a question

abbrev pub is_same_word : Option Word → Option Word → Bool
is_same_word None None = true
is_same_word (Some v) (Some w) = bytes_eq v w
is_same_word v w = false

-- a sign-out with this session
abbrev pub is_sign_out : Option Word → Option OpAsk → Bool
is_sign_out session (Some (SignOut presented)) = is_same_word presented session
is_sign_out session asked = false

-- a question is for the session that was presented with the request: this is that session, and the inner request signs out of it
abbrev pub if_answered : Option Word → Bool → QuestionRow → Option QuestionRow
if_answered session signs question = if signs && is_same_word question.session session then Some question else None

-- the question among these that is answered: it has the word
abbrev pub question_in : List QuestionRow → ℕ → Option Word → Option Word → Bool → Option QuestionRow
question_in rows at word session signs = option_and_then (if_answered session signs) (held_in at word rows)

abbrev pub confirm_doing : Option QuestionRow → Bool → Doing
confirm_doing None agree = Own Stale
confirm_doing (Some question) false = Own Kept
confirm_doing (Some question) true = Go (location question.wish)

-- ---- the reply

-- an entry that is passed on gets a reply of the inner core
abbrev pub IsReply : {R : Type 0} → Doing → EndReply R → Type 0
IsReply (Own own) told = told ≡ own_reply own
IsReply {R} Pass told = (r : R) × (told ≡ reply.Through r)
IsReply {R} (Go back) told = (r : R) × (told ≡ reply.Gone back r)

module _ {A R : Type 0} (c : EndSetup) where
  abbrev pub question_made : List QuestionRow → List (Outer A R) → Outer A R → Option QuestionRow
  question_made held past p = question_by c p.entry.ask p.reply p.entry.at

  abbrev pub question_kept : List (Outer A R) → Outer A R → QuestionRow → Option QuestionRow
  question_kept past p row = unless_ended (ended_by p.entry.ask p.reply) row

  -- the questions after a past
  abbrev pub questions : List (Outer A R) → List QuestionRow
  questions past = rows_by question_name question_made question_kept past

  -- those that wait at a moment
  abbrev pub held_questions : List (Outer A R) → ℕ → List QuestionRow
  held_questions past at = live_rows question_life question_begun at (questions past)

  abbrev pub held_question : List (Outer A R) → ℕ → Option Word → Option QuestionRow
  held_question past at w = held_in at w (questions past)

  -- fewer than 65,536 questions wait, and none of them has the word
  abbrev pub has_room : List (Outer A R) → ℕ → Word → Bool
  has_room past at w = nat_lt (length (held_questions past at)) most_rows && not (is_some (held_question past at (Some w)))

  module _ (plain : A → Option OpAsk) where
    -- the question that is answered
    abbrev pub asked_question : List (Outer A R) → ℕ → Option Word → Option Word → A → Option QuestionRow
    asked_question past at word session inner = question_in (questions past) at word session (is_sign_out session (plain inner))

    -- how a request is answered at a moment
    abbrev pub doing : List (Outer A R) → ℕ → List Word → EndAsk A → Doing
    doing past at fresh (Through inner) = Pass
    doing past at fresh (Start form session) =
        start_doing c (has_room past at (fresh_word fresh 0)) (fresh_word fresh 0) (end_read c.registry c.returns form)
    doing past at fresh (Confirm word agree session inner) = confirm_doing (asked_question past at word session inner) agree

    abbrev pub IsEndReply : List (Outer A R) → Entry (EndAsk A) → EndReply R → Type 0
    IsEndReply past e told = IsReply (doing past e.at e.fresh e.ask) told

-- ---- legal histories

-- the setup of the core and of the inner core
pub record SignoutSetup (S : Type 0) : Type 0 where
  pub own : EndSetup
  pub inner : S

abbrev pub IsLegalSignout : {A R S : Type 0} → (A → Option OpAsk) → (A → Type 0) → (A → ℕ) → (S → ℕ) → (S → List (Pair A R) → Type 0)
    → SignoutSetup S → List (Outer A R) → Type 0
IsLegalSignout {A} {R} {S} plain IsAsk weighs most IsLegalInner s h =
    IsLegalStack (IsEndAsk IsAsk) (IsEndReply s.own plain) passed (end_weight weighs) (λ (t : SignoutSetup S). most t.inner)
    (λ (t : SignoutSetup S). IsLegalInner t.inner) s h
