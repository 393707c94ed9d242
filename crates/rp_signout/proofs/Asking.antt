-- The table of questions after one more pair, and when a question has room.
use Rattle.std.proofs.Common.{◌≡◌, ◌≤◌, ℕ, Bool, true, false, not, ◌&&◌, ◌||◌, nat_lt, cond, List, ◌∷◌, length, filter_map, Option, Some, None, is_some, option_and_then, IfSome, Result, Ok, Err, refl, ap, sym, ◌∙◌, subst}
use Rattle.std.proofs.lemmas.Bool.{and_parts}
use Rattle.sso_base.specs.Words.{Word, fresh_word}
use Rattle.sso_base.specs.Rows.{put, row_of, if_lives, live_rows}
use Rattle.sso_base.proofs.RowLaws.{rows_distinct}
use Rattle.held_rows.specs.Held.{most_rows, is_full, MayAddRow}
use Rattle.held_rows.proofs.Found.{found_live}
use Rattle.held_rows.proofs.Kept.{bytes_swap, all_kept, kept_without}
use Rattle.held_rows.proofs.Added.{rows_carried, begun_carried}
use Rattle.op_exchange.specs.declared.ask.OpAsk.{OpAsk}
use Rattle.op_tables.proofs.TakenRows.{may_add_reserved}
use Rattle.core_stack.proofs.Same.{some_same}
use Rattle.end_request.specs.declared.wish.EndWish.{EndWish}
use Rattle.end_request.specs.declared.wish.EndNo.{EndNo}
use Rattle.end_request.specs.Ending.{end_read}
use Rattle.signout_answer.specs.declared.asks.EndAsk.{EndAsk}
use Rattle.signout_answer.specs.declared.asks.EndAsk.TheVariants as ask
use Rattle.signout_answer.specs.declared.asks.EndSetup.{EndSetup}
use Rattle.signout_answer.specs.declared.parts.OwnReply.{OwnReply}
use Rattle.signout_answer.specs.declared.parts.OwnReply.TheVariants as own
use Rattle.signout_answer.specs.declared.parts.EndParts.{EndParts}
use Rattle.signout_answer.specs.declared.parts.EndParts.TheVariants as parts
use Rattle.signout_answer.specs.declared.parts.Doing.{Doing}
use Rattle.signout_answer.specs.declared.parts.Doing.TheVariants as does
use Rattle.signout_answer.specs.declared.questions.QuestionRow.{QuestionRow}
use Rattle.oidc_words.specs.Lives.{question_life}
use Rattle.signout_answer.specs.Questions.{question_name, question_begun, unless_ended}
use Rattle.signout_answer.specs.Around.{Outer, ask_around, reply_around, own_reply}
use Rattle.signout_answer.specs.Answering.{question_of, question_by, ended_by, is_small, question_doing, start_doing, question_made, question_kept, questions, held_questions, has_room, doing}
use Rattle.signout_answer.proofs.Questioning.{unless_same, question_same, question_names, question_begins}
use Rattle.rp_signout.specs.Keeps.{HoldQuestions, rows_left, own_ended, own_made, parts_ended}

-- ---- what a reply ends and makes, by its parts

pub own_ends : {A : Type 0} (R : Type 0) (asked : EndAsk A) (r : OwnReply) → own_ended asked r ≡ ended_by {R = R} asked (own_reply r)
own_ends R (ask.Through a) r = refl
own_ends R (ask.Start form session) r = refl
own_ends R (ask.Confirm word agree session a) (own.Sure w) = refl
own_ends R (ask.Confirm word agree session a) (own.Wrong why) = refl
own_ends R (ask.Confirm word agree session a) own.Kept = refl
own_ends R (ask.Confirm word agree session a) own.Stale = refl
own_ends R (ask.Confirm word agree session a) own.Full = refl

pub own_makes : {A : Type 0} (R : Type 0) (c : EndSetup) (asked : EndAsk A) (r : OwnReply) (at : ℕ) → own_made c asked r at ≡ question_by {R = R} c asked (own_reply r) at
own_makes R c (ask.Through a) r at = refl
own_makes R c (ask.Confirm word agree session a) r at = refl
own_makes R c (ask.Start form session) (own.Sure w) at = refl
own_makes R c (ask.Start form session) (own.Wrong why) at = refl
own_makes R c (ask.Start form session) own.Kept at = refl
own_makes R c (ask.Start form session) own.Stale at = refl
own_makes R c (ask.Start form session) own.Full at = refl

pub parts_end : {A R : Type 0} (p : EndParts) (asked : A) (r : R) → parts_ended p ≡ ended_by (ask_around p asked) (reply_around p r)
parts_end parts.Through asked r = refl
parts_end (parts.Gone word agree session back) asked r = refl

pub parts_make_none : {A R : Type 0} (c : EndSetup) (p : EndParts) (asked : A) (r : R) (at : ℕ) → ◌≡◌ {A = Option QuestionRow} None (question_by c (ask_around p asked) (reply_around p r) at)
parts_make_none c parts.Through asked r at = refl
parts_make_none c (parts.Gone word agree session back) asked r at = refl

-- ---- the rows that an ended question leaves

pub left_is_kept : (ended : Option Word) (rows : List QuestionRow) → rows_left ended rows ≡ filter_map (unless_ended ended) rows
left_is_kept None rows = sym (all_kept (unless_ended None) rows (λ row. refl))
left_is_kept (Some w) rows =
    let C : QuestionRow → Bool → Option QuestionRow = λ row b. cond b None (Some row) in
    sym (kept_without question_name w (unless_ended (Some w)) rows (λ row. ap (C row) (bytes_swap w row.word)))

-- ---- the table after one more pair

pub holds_more : {A R : Type 0} (c : EndSetup) (past : List (Outer A R)) (p : Outer A R) (last : ℕ) (rows rows' : List QuestionRow) → last ≤ p.entry.at → HoldQuestions c past last rows
    → rows' ≡ put question_name (question_by c p.entry.ask p.reply p.entry.at) (rows_left (ended_by p.entry.ask p.reply) (live_rows question_life question_begun p.entry.at rows))
    → HoldQuestions c (p ∷ past) p.entry.at rows'
holds_more {A} {R} c past p last rows rows' order holds rows_are =
    let at : ℕ = p.entry.at in
    let made : Option QuestionRow = question_made c (questions c past) past p in
    let P : List QuestionRow → List QuestionRow = λ l. put question_name made l in
    let B : QuestionRow → ℕ = λ row. row.begun in
    let follow : rows' ≡ put question_name made (filter_map (question_kept c past p) (live_rows question_life question_begun at rows)) =
    rows_are ∙ ap P (left_is_kept (ended_by p.entry.ask p.reply) (live_rows question_life question_begun at rows)) in
    record {
      live = rows_carried question_name question_life question_begun last at (question_kept c past p) made rows rows' order (λ r s h. ap B (question_same c past p r s h)) (questions c past) holds.live follow;
      begun = begun_carried question_name question_life question_begun last at (question_kept c past p) made rows rows' order (λ r s h. ap B (question_same c past p r s h))
          (λ r h. question_begins c p.entry.ask p.reply at r h) holds.begun follow;
    }

-- ---- room for a question

abbrev word_in : Word → Doing → Word
word_in other (does.Own (own.Sure w)) = w
word_in other done = other

room_by : (b : Bool) (w v : Word) → question_doing b w ≡ does.Own (own.Sure v) → (b ≡ true) × (w ≡ v)
room_by true w v h = let W : Doing → Word = λ d. word_in w d in (refl, ap W h)
room_by false w v h = absurd (cc)

start_room : (c : EndSetup) (room : Bool) (w v : Word) (o : Result EndWish EndNo) → start_doing c room w o ≡ does.Own (own.Sure v) → (room ≡ true) × (w ≡ v)
start_room c room w v (Err why) h = absurd (cc)
start_room c room w v (Ok wish) h =
    let found = room_by (room && is_small c wish) w v h in
    ((and_parts room (is_small c wish) found.0).0, found.1)

word_of_row : (w : Word) (session : Option Word) (at : ℕ) (o : Result EndWish EndNo) (row : QuestionRow) → question_of w session at o ≡ Some row → (question_name row ≡ w) × (question_begun row ≡ at)
word_of_row w session at (Ok wish) row h =
    let N : QuestionRow → Word = λ r. r.word in
    let B : QuestionRow → ℕ = λ r. r.begun in
    let same = some_same (record { word = w; session = session; wish = wish; begun = at }) row h in
    (sym (ap N same), sym (ap B same))
word_of_row w session at (Err why) row h = absurd (cc)

not_full_by : (few named : Bool) → (few && not named) ≡ true → (not few || named) ≡ false
not_full_by true false h = refl
not_full_by true true h = absurd (cc)
not_full_by false named h = absurd (cc)

module _ {A R : Type 0} (c : EndSetup) (plain : A → Option OpAsk) (past : List (Outer A R)) where
  not_full : (at : ℕ) (w : Word) → has_room c past at w ≡ true → is_full most_rows question_name w (held_questions c past at) ≡ false
  not_full at w room =
      let few : Bool = nat_lt (length (held_questions c past at)) most_rows in
      let found : Option QuestionRow = option_and_then (if_lives question_life question_begun at) (row_of question_name w (questions c past)) in
      let S : Option QuestionRow → Bool = λ o. not few || is_some o in
      sym (ap S (found_live question_name question_life question_begun at w (questions c past) (rows_distinct question_name (question_made c) (question_kept c) (question_names c) past)))
      ∙ not_full_by few (is_some found) room

  -- a question that is made begins at its moment, and has room
  made_fits : (at : ℕ) (fresh : List Word) (asked : EndAsk A) (r : OwnReply) (row : QuestionRow) → doing c plain past at fresh asked ≡ does.Own r → own_made c asked r at ≡ Some row
      → (question_begun row ≡ at) × (is_full most_rows question_name (question_name row) (held_questions c past at) ≡ false)
  made_fits at fresh (ask.Start form session) (own.Sure v) row done made =
      let w : Word = fresh_word fresh 0 in
      let room = start_room c (has_room c past at w) w v (end_read c.registry c.returns form) done in
      let is = word_of_row v session at (end_read c.registry c.returns form) row made in
      let F : Word → Type 0 = λ x. is_full most_rows question_name x (held_questions c past at) ≡ false in
      (is.1, subst F (room.1 ∙ sym is.0) (not_full at w room.0))
  made_fits at fresh asked r row done made = absurd (cc)

  if_row : (P : QuestionRow → Type 0) (o : Option QuestionRow) → ((row : QuestionRow) → o ≡ Some row → P row) → IfSome o P
  if_row P None each = tt
  if_row P (Some row) each = each row refl

  pub question_may : (at : ℕ) (fresh : List Word) (asked : EndAsk A) (r : OwnReply) (made : Option QuestionRow) (last : ℕ) (rows : List QuestionRow) → doing c plain past at fresh asked ≡ does.Own r
      → made ≡ own_made c asked r at → last ≤ at → HoldQuestions c past last rows → (ended : Option Word)
      → IfSome made (MayAddRow question_name question_begun true (rows_left ended (live_rows question_life question_begun at rows)))
  question_may at fresh asked r made last rows done made_is order holds ended =
      let live : List QuestionRow = live_rows question_life question_begun at rows in
      let N : QuestionRow → Word = λ row. row.word in
      let B : QuestionRow → ℕ = λ row. row.begun in
      if_row (MayAddRow question_name question_begun true (rows_left ended live)) made (λ row there.
      (let fits = made_fits at fresh asked r row done (sym made_is ∙ there) in
      let F : List QuestionRow → Type 0 = λ l. MayAddRow question_name question_begun true l row in
      subst F (sym (left_is_kept ended live))
      (may_add_reserved question_name question_life question_begun (unless_ended ended) last at order rows (λ r s k. ap N (unless_same ended r s k)) (λ r s k. ap B (unless_same ended r s k))
      holds.begun (questions c past) holds.live row fits.0 fits.1)))
