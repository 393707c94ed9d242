-- What a refused request changes: nothing.
use Rattle.std.proofs.Common.{◌≡◌, ℕ, true, List, ◌∷◌, filter_map, Option, None, refl, ap, ◌∙◌}
use Rattle.sso_base.specs.Words.{Word}
use Rattle.sso_base.specs.Rows.{put}
use Rattle.sso_base.specs.declared.history.Pair.{Pair}
use Rattle.held_rows.proofs.Kept.{all_kept}
use Rattle.signout_answer.specs.declared.asks.EndAsk.{EndAsk}
use Rattle.signout_answer.specs.declared.asks.EndAsk.TheVariants as ask
use Rattle.signout_answer.specs.declared.asks.EndSetup.{EndSetup}
use Rattle.signout_answer.specs.declared.parts.OwnReply.{OwnReply}
use Rattle.signout_answer.specs.declared.parts.OwnReply.TheVariants as own
use Rattle.signout_answer.specs.declared.questions.QuestionRow.{QuestionRow}
use Rattle.signout_answer.specs.Questions.{question_name, unless_ended}
use Rattle.signout_answer.specs.Around.{Outer, own_reply, own_pair}
use Rattle.signout_answer.specs.Answering.{question_by, ended_by, questions}
use Rattle.signout_answer.specs.Laws.{is_refusal}

none_made : {A : Type 0} (R : Type 0) (c : EndSetup) (asked : EndAsk A) (r : OwnReply) (at : ℕ) → is_refusal r ≡ true
    → question_by {R = R} c asked (own_reply r) at ≡ None
none_made R c (ask.Through a) r at is = refl
none_made R c (ask.Confirm word agree session a) r at is = refl
none_made R c (ask.Start form session) (own.Sure w) at is = absurd (cc)
none_made R c (ask.Start form session) (own.Wrong why) at is = refl
none_made R c (ask.Start form session) own.Kept at is = refl
none_made R c (ask.Start form session) own.Stale at is = refl
none_made R c (ask.Start form session) own.Full at is = refl

none_ended : {A : Type 0} (R : Type 0) (asked : EndAsk A) (r : OwnReply) → is_refusal r ≡ true → ended_by {R = R} asked (own_reply r) ≡ None
none_ended R (ask.Through a) r is = refl
none_ended R (ask.Start form session) r is = refl
none_ended R (ask.Confirm word agree session a) (own.Sure w) is = refl
none_ended R (ask.Confirm word agree session a) (own.Wrong why) is = refl
none_ended R (ask.Confirm word agree session a) own.Kept is = absurd (cc)
none_ended R (ask.Confirm word agree session a) own.Stale is = refl
none_ended R (ask.Confirm word agree session a) own.Full is = refl

pub questions_stay : {A R : Type 0} (c : EndSetup) (past : List (Outer A R)) (o : Pair (EndAsk A) OwnReply) → is_refusal o.reply ≡ true
    → questions c (own_pair o ∷ past) ≡ questions c past
questions_stay {A} {R} c past o is =
    let rows : List QuestionRow = questions c past in
    let M : Option QuestionRow → List QuestionRow =
    λ m. put question_name m (filter_map (unless_ended (ended_by {R = R} o.entry.ask (own_reply o.reply))) rows) in
    let E : Option Word → List QuestionRow = λ w. filter_map (unless_ended w) rows in
    ap M (none_made R c o.entry.ask o.reply o.entry.at is) ∙ ap E (none_ended R o.entry.ask o.reply is)
    ∙ all_kept (unless_ended None) rows (λ row. refl)
