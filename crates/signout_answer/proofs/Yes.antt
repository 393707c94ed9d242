-- A sign-out after a question follows a `yes`.
use Rattle.std.proofs.Common.{◌≡◌, ℕ, Bool, true, false, ◌&&◌, List, ◌∷◌, ◌++◌, Option, Some, None, Result, Ok, Err, refl, ap, sym, ◌∙◌, subst}
use Rattle.sso_base.specs.Words.{Word, Text, fresh_word}
use Rattle.op_exchange.specs.declared.ask.OpAsk.{OpAsk}
use Rattle.core_stack.specs.Stacked.{AreAnswered}
use Rattle.core_stack.proofs.Passing.{pair_answered}
use Rattle.end_request.specs.declared.wish.EndWish.{EndWish}
use Rattle.end_request.specs.declared.wish.EndNo.{EndNo}
use Rattle.end_request.specs.Ending.{end_read, location}
use Rattle.end_request.proofs.Sending.{registered_return}
use Rattle.signout_answer.specs.declared.asks.EndAsk.{EndAsk}
use Rattle.signout_answer.specs.declared.asks.EndAsk.TheVariants.{Through, Start, Confirm}
use Rattle.signout_answer.specs.declared.asks.EndReply.{EndReply}
use Rattle.signout_answer.specs.declared.asks.EndReply.TheVariants as reply
use Rattle.signout_answer.specs.declared.asks.EndSetup.{EndSetup}
use Rattle.signout_answer.specs.declared.questions.QuestionRow.{QuestionRow}
use Rattle.signout_answer.specs.Questions.{held_in}
use Rattle.signout_answer.specs.Around.{Outer, IsEndAsk}
use Rattle.signout_answer.specs.Answering.{is_small, question_doing, start_doing, is_sign_out, question_in, confirm_doing, IsReply, questions, has_room}
use Rattle.signout_answer.specs.Answering.{doing, IsEndReply}
use Rattle.signout_answer.specs.Laws.{WasAsked, SaidYes, WasAllowed}
use Rattle.signout_answer.proofs.Questioning.{false_true, held_is, answered_is, sign_out_is, asked_before}

abbrev is_gone : {R : Type 0} → EndReply R → Bool
is_gone (reply.Gone back r) = true
is_gone told = false

abbrev back_in : {R : Type 0} → EndReply R → Option Text
back_in (reply.Gone back r) = back
back_in told = None

not_gone : {R : Type 0} (back : Option Text) (r : R) (told : EndReply R) → is_gone told ≡ false → ◌≡◌ {A = EndReply R} (reply.Gone back r) told → ⊥
not_gone {R} back r told other h = false_true (sym other ∙ ap (λ (x : EndReply R). is_gone x) (sym h))

question_gone : {R : Type 0} (back : Option Text) (r : R) (room : Bool) (w : Word) → IsReply (question_doing room w) (reply.Gone back r) → ⊥
question_gone back r true w h = not_gone back r (reply.Sure w) refl h
question_gone back r false w h = not_gone back r reply.Full refl h

start_gone : {R : Type 0} (c : EndSetup) (back : Option Text) (r : R) (room : Bool) (w : Word) (o : Result EndWish EndNo) → IsReply (start_doing c room w o) (reply.Gone back r) → ⊥
start_gone c back r room w (Err why) h = not_gone back r (reply.Wrong why) refl h
start_gone c back r room w (Ok wish) h = question_gone back r (room && is_small c wish) w h

confirm_gone : {R : Type 0} (back : Option Text) (r : R) (o : Option QuestionRow) (agree : Bool) → IsReply (confirm_doing o agree) (reply.Gone back r)
    → (row : QuestionRow) × (o ≡ Some row) × (agree ≡ true) × (back ≡ location row.wish)
confirm_gone back r None agree h = absurd (not_gone back r reply.Stale refl h)
confirm_gone back r (Some row) false h = absurd (not_gone back r reply.Kept refl h)
confirm_gone {R} back r (Some row) true h = (row, refl, refl, ap (λ (x : EndReply R). back_in x) h.1)

module _ {A R : Type 0} (c : EndSetup) (plain : A → Option OpAsk) where
  yes_of : (past : List (Outer A R)) (at : ℕ) (fresh : List Word) (asked : EndAsk A) (back : Option Text) (r : R) → IsReply (doing c plain past at fresh asked) (reply.Gone back r)
      → SaidYes c plain past (record { entry = record { at = at; fresh = fresh; ask = asked }; reply = reply.Gone back r }) back
  yes_of past at fresh (Through a) back r h = absurd (not_gone back r (reply.Through h.0) refl h.1)
  yes_of past at fresh (Start form session) back r h = absurd (start_gone c back r (has_room c past at (fresh_word fresh 0)) (fresh_word fresh 0) (end_read c.registry c.returns form) h)
  yes_of past at fresh (Confirm word agree session inner) back r h =
      let gone = confirm_gone back r (question_in (questions c past) at word session (is_sign_out session (plain inner))) agree h in
      let own = answered_is session (plain inner) (held_in at word (questions c past)) gone.0 gone.1 in
      let held = held_is at word (questions c past) gone.0 own.0 in
      let before = asked_before c past held.0 gone.0 held.2 in
      let S : Option Word → Type 0 = λ s. WasAsked past held.0 s before.0 in
      record {
        word = held.0;
        session = session;
        inner = inner;
        form = before.0;
        asked = ap (λ w. Confirm w agree session inner) held.1 ∙ ap (λ g. Confirm (Some held.0) g session inner) gone.2;
        signs_out = sign_out_is session (plain inner) own.2;
        request = subst S own.1 before.1;
        registered = λ to there. registered_return c.registry c.returns before.0 gone.0.wish to before.2 (sym gone.3 ∙ there);
      }

  pub said_yes : (IsAsk : A → Type 0) (past before after : List (Outer A R)) (p : Outer A R) (back : Option Text) (r : R) → AreAnswered (IsEndAsk IsAsk) (IsEndReply c plain) past
      → past ≡ after ++ p ∷ before → p.reply ≡ reply.Gone back r → SaidYes c plain before p back
  said_yes IsAsk past before after p back r answered parts told =
      let L : List (Outer A R) → Type 0 = λ l. AreAnswered (IsEndAsk IsAsk) (IsEndReply c plain) l in
      let D : EndReply R → Type 0 = λ t. IsReply (doing c plain before p.entry.at p.entry.fresh p.entry.ask) t in
      let is = pair_answered (IsEndAsk IsAsk) (IsEndReply c plain) after before p (subst L parts answered) in
      let said = yes_of before p.entry.at p.entry.fresh p.entry.ask back r (subst D told is) in
      record {
        word = said.word;
        session = said.session;
        inner = said.inner;
        form = said.form;
        asked = said.asked;
        signs_out = said.signs_out;
        request = said.request;
        registered = said.registered;
      }

  pub was_allowed : (past : List (Outer A R)) (p : Outer A R) (to : Text) → SaidYes c plain past p (Some to) → WasAllowed c past to
  was_allowed past p to said = record { word = said.word; session = said.session; form = said.form; request = said.request; registered = said.registered to refl }
