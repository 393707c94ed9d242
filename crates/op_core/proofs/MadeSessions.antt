-- The client that a pair answers and the session that it makes, from what lives before it.
use Rattle.std.proofs.Common.{◌≡◌, ℕ, Bool, true, false, cond, Option, Some, None, option_map, refl, sym, ◌∙◌, ap, subst}
use Rattle.std.specs.Str.{bytes_eq}
use Rattle.sso_base.specs.Words.{Word, fresh_word}
use Rattle.sso_base.specs.Rows.{row_of, without}
use Rattle.sso_base.specs.declared.history.Entry.{Entry}
use Rattle.sso_base.proofs.RowLaws.{row_of-without_other, rows_distinct}
use Rattle.client_registry.specs.Configuration.{Configuration}
use Rattle.auth_request.specs.declared.wish.Wish.{Wish}
use Rattle.auth_request.specs.declared.wish.Verdict.TheVariants as verdict
use Rattle.auth_answer.specs.declared.answer.Answer.{Answer}
use Rattle.code_grant.specs.declared.rows.TurnRow.{TurnRow}
use Rattle.code_grant.specs.declared.rows.SessionRow.{SessionRow}
use Rattle.code_grant.specs.Rows.{turn_begun, session_name, session_begun}
use Rattle.oidc_words.specs.Lives.{turn_life, session_life}
use Rattle.held_rows.specs.Held.{most_rows}
use Rattle.op_exchange.specs.declared.ask.OpAsk.{OpAsk}
use Rattle.op_exchange.specs.declared.ask.OpAsk.TheVariants as ask
use Rattle.op_exchange.specs.declared.reply.OpReply.{OpReply}
use Rattle.op_exchange.specs.declared.reply.OpReply.TheVariants as reply
use Rattle.op_exchange.specs.Replied.{code_in, access_in}
use Rattle.op_answer.specs.Past.{OpPast}
use Rattle.op_answer.specs.Turns.{turn_of, live_turn}
use Rattle.op_answer.specs.Sessions.{session_set, signed_user, wish_by, client_of_wish, client_answered, and_client, session_before, live_in, session_made_by, session_made, session_kept, sessions, live_sessions}
use Rattle.op_answer.specs.Replies.{session_renewed, session_left, session_after}
use Rattle.op_answer.specs.Room.{sessions_beside, lacks_turn, lacks_session, lacks_new_session, lacks_code, lacks_access}
use Rattle.op_answer.specs.Answering.{op_answer}
use Rattle.op_answer.specs.Causes.{is_own, ConsentPageCause, AnsweredCause, RefusedCause}
use Rattle.op_core.specs.Making.{wish_found, client_found, session_with, session_put_by, session_put}
use Rattle.op_tables.proofs.TakenSessions.{second_false}
use Rattle.op_answer.proofs.KeptNames.{some_same, session_names}
use Rattle.op_answer.proofs.Renewals.{renewed_lives}
use Rattle.held_rows.proofs.Added.{unnamed_there}
use Rattle.held_rows.proofs.Found.{found_live, row_that_lives}
use Rattle.op_answer.proofs.Standing.{own_replies_stand}
use Rattle.op_answer.proofs.Pages.{consent_pages_have_a_cause}
use Rattle.op_answer.proofs.Answers.{answers_have_a_cause}
use Rattle.op_answer.proofs.Refusals.{refusals_have_a_cause}

-- ---- what room says of a word

module _ (past : OpPast) (at : ℕ) where
  -- a live session is a row
  pub live_found : (w : Word) → live_in at w (sessions past) ≡ row_of session_name w (live_sessions past at)
  live_found w =
      found_live session_name session_life session_begun at w (sessions past) (rows_distinct session_name session_made session_kept session_names past)

  unnamed_beside : (w v : Word) (same : Bool) → bytes_eq v w ≡ same → row_of session_name w (sessions_beside (Some v) w (live_sessions past at)) ≡ None
      → row_of session_name w (live_sessions past at) ≡ None
  unnamed_beside w v true is h =
      let B : Bool → Option SessionRow = λ b. row_of session_name w (cond b (live_sessions past at) (without session_name v (live_sessions past at))) in
      sym (ap B is) ∙ h
  unnamed_beside w v false is h =
      let B : Bool → Option SessionRow = λ b. row_of session_name w (cond b (live_sessions past at) (without session_name v (live_sessions past at))) in
      sym (row_of-without_other session_name v w (live_sessions past at) is) ∙ sym (ap B is) ∙ h

  unnamed : (presented : Option Word) (w : Word) → row_of session_name w (sessions_beside presented w (live_sessions past at)) ≡ None
      → row_of session_name w (live_sessions past at) ≡ None
  unnamed None w h = h
  unnamed (Some v) w h = unnamed_beside w v (bytes_eq v w) refl h

  -- where a new session has room, no live one has its word
  new_is_free : (presented : Option Word) (w : Word) → lacks_new_session past at None presented (Some w) ≡ false → live_in at w (sessions past) ≡ None
  new_is_free presented w h =
      let rows = sessions_beside presented w (live_sessions past at) in
      live_found w ∙ unnamed presented w (unnamed_there most_rows session_name w rows h)

-- ---- the session that a right password leaves, as its word says

-- a session word is that of the session that is left, and there was room
abbrev Leaves : OpPast → Entry OpAsk → OpAsk → Option Word → Type 0
Leaves past e (ask.Login turn (Some user) b presented) (Some w) =
    (w ≡ (session_after past e user presented).word) × (lacks_new_session past e.at (session_renewed past e.at user presented) presented (Some w) ≡ false)
Leaves past e asked given = Unit {0}

-- the row of a word by the definition of sessions
abbrev row_by : Entry OpAsk → Word → ℕ → Option ℕ → Option SessionRow → SessionRow
row_by e w user client row =
    let before = session_before w (fresh_word e.fresh 1) user e.at row in
    record before { auth_time = e.at; clients = and_client client before.clients }

module _ (past : OpPast) (e : Entry OpAsk) where
  row_left_by : (user : ℕ) (presented : Option Word) (w : Word) (client : Option ℕ) (renewed : Option SessionRow) → session_renewed past e.at user presented ≡ renewed
      → w ≡ (session_left e user renewed).word → lacks_new_session past e.at renewed presented (Some w) ≡ false
      → row_by e w user client (live_in e.at w (sessions past)) ≡ session_with client (session_left e user renewed)
  row_left_by user presented w client None eq is room =
      let F : Option SessionRow → SessionRow = λ o. row_by e w user client o in
      let G : Word → SessionRow = λ v. row_by e v user client None in
      ap F (new_is_free past e.at presented w room) ∙ ap G is
  row_left_by user presented w client (Some s) eq is room =
      let F : Option SessionRow → SessionRow = λ o. row_by e w user client o in
      ap F (renewed_lives past e.at user presented s w eq is)

  none_put : (client : Option ℕ) (asked : OpAsk) → session_put_by past e client asked None ≡ None
  none_put client (ask.Login turn (Some user) b presented) = refl
  none_put client (ask.Login turn None b presented) = refl
  none_put client other = refl

  session_same : (asked : OpAsk) (given : Option Word) (told : OpReply) → Leaves past e asked given
      → session_made_by (sessions past) past (record { entry = e; reply = told }) given (signed_user asked)
      ≡ session_put_by past e (client_answered past (record { entry = e; reply = told })) asked given
  session_same (ask.Login turn (Some user) b presented) (Some w) told leaves =
      let S : SessionRow → Option SessionRow = λ s. Some s in
      ap S (row_left_by user presented w (client_answered past (record { entry = e; reply = told })) (session_renewed past e.at user presented) refl leaves.0 leaves.1)
  session_same asked None told leaves = sym (none_put (client_answered past (record { entry = e; reply = told })) asked)
  session_same asked (Some w) told leaves = refl

module _ (c : Configuration) (past : OpPast) (e : Entry OpAsk) where
  -- ---- the client

  pub turn_stands : (turn : Option Word) (row : TurnRow) → live_turn past e.at turn ≡ Some row → turn_of past turn ≡ Some row
  turn_stands turn row live = row_that_lives turn_life turn_begun e.at (turn_of past turn) row live

  -- a successful response is about the wish of a live turn
  pub wish_same : (answer : Answer) (given : Option Word) (asked : OpAsk) → AnsweredCause c past e asked answer given → wish_by past asked ≡ wish_found past e.at asked
  wish_same answer given (ask.Authorize (verdict.Grant wish) b presented) h = refl
  wish_same answer given (ask.Login turn (Some user) b presented) h =
      let W : Option TurnRow → Option Wish = λ o. option_map (λ (row : TurnRow). row.wish) o in
      ap W (turn_stands turn h.row h.own.live ∙ sym h.own.live)
  wish_same answer given (ask.Consent turn true b presented) h =
      let W : Option TurnRow → Option Wish = λ o. option_map (λ (row : TurnRow). row.wish) o in
      ap W (turn_stands turn h.row h.own.own.live ∙ sym h.own.own.live)
  wish_same answer given other h = absurd h

  pub client_makes : (told : OpReply) → op_answer c past e ≡ told → client_answered past (record { entry = e; reply = told }) ≡ client_found past e told
  client_makes (reply.Answered answer given) h =
      let K : Option Wish → Option ℕ = λ o. client_of_wish true o in
      ap K (wish_same answer given e.ask (answers_have_a_cause c past e answer given h))
  client_makes other h = refl

  -- ---- the session

  left : (turn : Option Word) (user : ℕ) (b presented given : Option Word) → given ≡ Some (session_after past e user presented).word
      → lacks_new_session past e.at (session_renewed past e.at user presented) presented given ≡ false → Leaves past e (ask.Login turn (Some user) b presented) given
  left turn user b presented (Some w) is room = (some_same w (session_after past e user presented).word is, room)
  left turn user b presented None is room = tt

  room_for_session : (told : OpReply) → is_own told ≡ true → op_answer c past e ≡ told → lacks_session past e.at e.ask told ≡ false
  room_for_session told own h =
      second_false (lacks_turn past e.at e.ask told) (lacks_session past e.at e.ask told) (lacks_code past e.at (code_in told)) (lacks_access past e.at (access_in told))
      (own_replies_stand c past e told own h).room

  leaves_by : (asked : OpAsk) (told : OpReply) → e.ask ≡ asked → op_answer c past e ≡ told → Leaves past e asked (session_set asked told)
  leaves_by (ask.Login turn (Some user) b presented) (reply.ConsentPage w v given client scopes) is h =
      let C : OpAsk → Type 0 = λ a. ConsentPageCause c past e a w v given client scopes in
      let R : OpAsk → Type 0 = λ a. lacks_session past e.at a (reply.ConsentPage w v given client scopes) ≡ false in
      let cause : C (ask.Login turn (Some user) b presented) = subst C is (consent_pages_have_a_cause c past e w v given client scopes h) in
      left turn user b presented given cause.given_is (subst R is (room_for_session (reply.ConsentPage w v given client scopes) refl h))
  leaves_by (ask.Login turn (Some user) b presented) (reply.Answered answer given) is h =
      let C : OpAsk → Type 0 = λ a. AnsweredCause c past e a answer given in
      let R : OpAsk → Type 0 = λ a. lacks_session past e.at a (reply.Answered answer given) ≡ false in
      let cause : C (ask.Login turn (Some user) b presented) = subst C is (answers_have_a_cause c past e answer given h) in
      left turn user b presented given cause.given_is (subst R is (room_for_session (reply.Answered answer given) refl h))
  leaves_by (ask.Login turn (Some user) b presented) (reply.Refused refusal given) is h =
      let C : OpAsk → Type 0 = λ a. RefusedCause c past e a refusal given in
      let R : OpAsk → Type 0 = λ a. lacks_session past e.at a (reply.Refused refusal given) ≡ false in
      let cause : C (ask.Login turn (Some user) b presented) = subst C is (refusals_have_a_cause c past e refusal given h) in
      left turn user b presented given cause.given_is (subst R is (room_for_session (reply.Refused refusal given) refl h))
  leaves_by asked told is h = tt

  pub session_makes : (told : OpReply) → op_answer c past e ≡ told → session_made (sessions past) past (record { entry = e; reply = told }) ≡ session_put past e told
  session_makes told h =
      let P : Option ℕ → Option SessionRow = λ o. session_put_by past e o e.ask (session_set e.ask told) in
      session_same past e e.ask (session_set e.ask told) told (leaves_by e.ask told refl h) ∙ ap P (client_makes told h)
