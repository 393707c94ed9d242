-- What is looked up: the questions that the table holds are those of the past, and the inner core's history is the one passed on.
use Rattle.std.proofs.Common.{◌≡◌, ◌≤◌, ◌&&◌, ℕ, Bool, not, nat_lt, List, length, reverse, Option, Some, is_some, option_and_then, ap, sym, ◌∙◌, subst}
use Rattle.sso_base.specs.Words.{Word}
use Rattle.sso_base.specs.Rows.{row_of, if_lives, live_rows}
use Rattle.sso_base.specs.Stands.{IsDistinct}
use Rattle.sso_base.specs.Legal.{last_moment}
use Rattle.sso_base.specs.declared.history.Pair.{Pair}
use Rattle.sso_base.proofs.RowLaws.{rows_distinct}
use Rattle.held_rows.specs.Held.{most_rows}
use Rattle.held_rows.proofs.Found.{same_later, found_in_both}
use Rattle.op_exchange.specs.declared.ask.OpAsk.{OpAsk}
use Rattle.core_stack.specs.Kept.{passed_count}
use Rattle.core_stack.proofs.Numbers.{low_through}
use Rattle.core_stack.proofs.Merging.{inner_of_merged}
use Rattle.signout_answer.specs.declared.parts.Doing.{Doing}
use Rattle.signout_answer.specs.declared.asks.EndSetup.{EndSetup}
use Rattle.signout_answer.specs.declared.questions.QuestionRow.{QuestionRow}
use Rattle.oidc_words.specs.Lives.{question_life}
use Rattle.signout_answer.specs.Questions.{question_name, question_begun}
use Rattle.signout_answer.specs.Around.{Outer, passed, inner_history, around, own_pair, merged_history}
use Rattle.signout_answer.specs.Answering.{is_sign_out, if_answered, question_in, confirm_doing, question_made, question_kept, questions, has_room}
use Rattle.signout_answer.specs.Answering.{asked_question, SignoutSetup}
use Rattle.signout_answer.proofs.Inside.{own_is_not_passed, around_is_passed}
use Rattle.signout_answer.proofs.Questioning.{question_names}
use Rattle.rp_signout.specs.Keeps.{KeptEntry, HoldQuestions, Keeps, room_in}

pub inner_same : {A R : Type 0} (ks : List (KeptEntry A)) (inner : List (Pair A R)) (H : List (Outer A R)) → passed_count ks ≡ length inner → merged_history ks inner ≡ H → inner ≡ inner_history H
inner_same {A} {R} ks inner H count is =
    let I : List (Outer A R) → List (Pair A R) = λ l. inner_history l in
    sym (inner_of_merged around own_pair passed (λ k p. around_is_passed k p) (λ e. own_is_not_passed e) ks inner count) ∙ ap I is

-- ---- the questions of a past, in the table

module _ {A R : Type 0} (c : EndSetup) (past : List (Outer A R)) (last : ℕ) (rows : List QuestionRow) (holds : HoldQuestions c past last rows) (at : ℕ) (order : last ≤ at) where
  live_same : live_rows question_life question_begun at rows ≡ live_rows question_life question_begun at (questions c past)
  live_same = same_later question_name question_life question_begun last at order rows (questions c past) holds.live

  found_same : (w : Word) → IsDistinct question_name rows
      → option_and_then (if_lives question_life question_begun at) (row_of question_name w rows) ≡ option_and_then (if_lives question_life question_begun at) (row_of question_name w (questions c past))
  found_same w distinct =
      found_in_both question_name question_life question_begun last at order w rows (questions c past) distinct
      (rows_distinct question_name (question_made c) (question_kept c) (question_names c) past) holds.live

  pub room_same : (w : Word) → IsDistinct question_name rows → room_in rows at w ≡ has_room c past at w
  room_same w distinct =
      let L : List QuestionRow → Bool = λ l. nat_lt (length l) most_rows && not (is_some (option_and_then (if_lives question_life question_begun at) (row_of question_name w rows))) in
      let F : Option QuestionRow → Bool = λ o. nat_lt (length (live_rows question_life question_begun at (questions c past))) most_rows && not (is_some o) in
      ap L live_same ∙ ap F (found_same w distinct)

  pub answered_same : (w : Word) → IsDistinct question_name rows → (session : Option Word) (signs : Bool) (agree : Bool)
      → confirm_doing (question_in rows at (Some w) session signs) agree ≡ confirm_doing (question_in (questions c past) at (Some w) session signs) agree
  answered_same w distinct session signs agree =
      let F : Option QuestionRow → Doing = λ o. confirm_doing (option_and_then (if_answered session signs) o) agree in
      ap F (found_same w distinct)

module _ {A R S : Type 0} (plain : A → Option OpAsk) (IsAsk : A → Type 0) (weighs : A → ℕ) (most : S → ℕ) (IsLegalInner : S → List (Pair A R) → Type 0)
    (s : SignoutSetup S) (inner : List (Pair A R)) (ks : List (KeptEntry A)) (weight last limit : ℕ) (rows : List QuestionRow)
    (keeps : Keeps plain IsAsk weighs most IsLegalInner s inner ks weight last limit rows) (H : List (Outer A R)) (is : merged_history ks inner ≡ H) where
  -- no entry is after the moment
  pub not_ahead : (at : ℕ) → last_moment (reverse H) ≤ at → last ≤ at
  not_ahead at order =
      let O : List (Outer A R) → Type 0 = λ l. last_moment (reverse l) ≤ at in
      low_through last (last_moment (reverse (merged_history ks inner))) at keeps.last_is (subst O (sym is) order)

  pub held_now : HoldQuestions s.own (reverse H) last rows
  held_now = let M : List (Outer A R) → Type 0 = λ l. HoldQuestions s.own (reverse l) last rows in subst M is keeps.held

  pub room_looked_up : (at : ℕ) → last_moment (reverse H) ≤ at → (w : Word) → IsDistinct question_name rows → (room : Bool) → room ≡ room_in rows at w → room ≡ has_room s.own (reverse H) at w
  room_looked_up at order w distinct room room_is = room_is ∙ room_same s.own (reverse H) last rows held_now at (not_ahead at order) w distinct

  pub answer_looked_up : (at : ℕ) → last_moment (reverse H) ≤ at → (named : Option Word) (w : Word) → named ≡ Some w → IsDistinct question_name rows → (session : Option Word) (a : A) (signs : Bool)
      → signs ≡ is_sign_out session (plain a) → (agree : Bool)
      → confirm_doing (question_in rows at (Some w) session signs) agree ≡ confirm_doing (asked_question s.own plain (reverse H) at named session a) agree
  answer_looked_up at order named w named_is distinct session a signs signs_are agree =
      let G : Bool → Doing = λ b. confirm_doing (question_in (questions s.own (reverse H)) at (Some w) session b) agree in
      let N : Option Word → Doing = λ o. confirm_doing (asked_question s.own plain (reverse H) at o session a) agree in
      answered_same s.own (reverse H) last rows held_now at (not_ahead at order) w distinct session signs agree ∙ ap G signs_are ∙ ap N (sym named_is)
