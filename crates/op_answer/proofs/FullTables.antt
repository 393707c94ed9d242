-- `Full` comes if and only if a row that the reply would make has no place in its table.
use Rattle.std.proofs.Common.{◌≡◌, ℕ, Bool, true, false, ◌||◌, cond, List, Option, Some, None, Ok, refl, sym, ◌∙◌, ap, subst, ◌⊎◌, inl, inr}
use Rattle.sso_base.specs.Words.{Word, fresh_word}
use Rattle.sso_base.specs.declared.history.Entry.{Entry}
use Rattle.client_registry.specs.Configuration.{Configuration}
use Rattle.auth_request.specs.declared.wish.Verdict.TheVariants as verdict
use Rattle.auth_answer.specs.declared.answer.Answer.{Answer}
use Rattle.code_grant.specs.declared.rows.SessionRow.{SessionRow}
use Rattle.code_grant.specs.Rows.{turn_name, session_name, code_name, access_name}
use Rattle.held_rows.specs.Held.{NoPlace}
use Rattle.held_rows.proofs.Places.{no_place, full_by}
use Rattle.op_exchange.specs.declared.ask.OpAsk.{OpAsk}
use Rattle.op_exchange.specs.declared.ask.OpAsk.TheVariants as ask
use Rattle.op_exchange.specs.declared.reply.OpReply.{OpReply}
use Rattle.op_exchange.specs.declared.reply.OpReply.TheVariants as reply
use Rattle.op_exchange.specs.Asks.{is_prepared}
use Rattle.op_exchange.specs.Replied.{session_given, code_in, access_in}
use Rattle.op_issue.specs.Issued.{if_wished}
use Rattle.op_answer.specs.Past.{OpPast}
use Rattle.op_answer.specs.Turns.{BeginsTurn, live_turns}
use Rattle.op_answer.specs.Sessions.{live_sessions}
use Rattle.op_answer.specs.Codes.{held_codes}
use Rattle.op_answer.specs.AccessTokens.{live_accesses}
use Rattle.op_answer.specs.Replies.{session_renewed, session_left, session_after}
use Rattle.op_answer.specs.Room.{sessions_beside, lacks_turn, lacks_new_session, lacks_session, lacks_code, lacks_access, lacks_room}
use Rattle.op_answer.specs.Answering.{op_reply, op_answer}
use Rattle.op_answer.specs.Causes.{AnsweredCause, TokensCause}
use Rattle.op_answer.specs.FullTables.{NoSessionPlace, NoCodePlace, NoAccessPlace, LacksPlace, FullCause}
use Rattle.op_answer.proofs.Forms.{request_told, login_told, consent_told, token_told, info_told, sign_out_told}
use Rattle.op_answer.proofs.Pages.{login_page_asked, consent_page_asked}
use Rattle.op_answer.proofs.Answers.{answered_asked}
use Rattle.op_answer.proofs.Refusals.{refused_asked}
use Rattle.op_answer.proofs.TokenResponses.{tokens_asked}

-- ---- the answer, opened

opened : (prepared full : Bool) (told : OpReply) → (told ≡ reply.Full → ⊥) → cond prepared (cond full reply.Full told) reply.NotHere ≡ reply.Full → (prepared ≡ true) × (full ≡ true)
opened false full told never h = cc
opened true true told never h = (refl, refl)
opened true false told never h = absurd (never h)

module _ (c : Configuration) (past : OpPast) (e : Entry OpAsk) where
  never_full : (asked : OpAsk) → op_reply c past e asked ≡ reply.Full → ⊥
  never_full (ask.Authorize judged browser presented) h = let told = request_told c past e reply.Full judged browser presented h in cc
  never_full (ask.Login turn signed browser presented) h = let told = login_told c past e reply.Full turn signed browser presented h in cc
  never_full (ask.Consent turn agree browser presented) h = let told = consent_told c past e reply.Full turn agree browser presented h in cc
  never_full (ask.Token grant) h = let told = token_told c past e reply.Full grant h in cc
  never_full (ask.Info bearer) h = let told = info_told c past e reply.Full bearer h in cc
  never_full (ask.SignOut session) h = let told = sign_out_told c past e reply.Full session h in cc
  never_full ask.Metadata h = cc
  never_full ask.Keys h = cc
  never_full ask.Twice h = cc
  never_full ask.NotHere h = cc

  full_lacks_room : op_answer c past e ≡ reply.Full → (is_prepared c e.ask ≡ true) × (lacks_room past e (op_reply c past e e.ask) ≡ true)
  unfolding op_answer
  full_lacks_room h = opened (is_prepared c e.ask) (lacks_room past e (op_reply c past e e.ask)) (op_reply c past e e.ask) (never_full e.ask) h

  full_without_room : is_prepared c e.ask ≡ true → lacks_room past e (op_reply c past e e.ask) ≡ true → op_answer c past e ≡ reply.Full
  unfolding op_answer
  full_without_room prepared room =
      let told : OpReply = op_reply c past e e.ask in
      let P : Bool → OpReply = λ b. cond b (cond (lacks_room past e told) reply.Full told) reply.NotHere in
      let F : Bool → OpReply = λ b. cond b reply.Full told in
      ap P prepared ∙ ap F room

  -- ---- a turn that would begin

  begins_drawn : (asked : OpAsk) (told : OpReply) → op_reply c past e asked ≡ told → lacks_turn past e.at asked told ≡ true
      → BeginsTurn asked told (fresh_word e.fresh 1) × NoPlace turn_name (fresh_word e.fresh 1) (live_turns past e.at)
  begins_drawn (ask.Authorize (verdict.Grant wish) browser presented) (reply.LoginPage w b again) h lacks =
      let cause = login_page_asked c past e w b again (ask.Authorize (verdict.Grant wish) browser presented) h in
      let F : Word → Type 0 = λ v. NoPlace turn_name v (live_turns past e.at) in
      (sym cause.drawn, subst F (sym cause.drawn) (no_place turn_name w (live_turns past e.at) lacks))
  begins_drawn (ask.Authorize (verdict.Grant wish) browser presented) (reply.ConsentPage w b given client scopes) h lacks =
      let cause = consent_page_asked c past e w b given client scopes (ask.Authorize (verdict.Grant wish) browser presented) h in
      let F : Word → Type 0 = λ v. NoPlace turn_name v (live_turns past e.at) in
      (sym cause.drawn, subst F (sym cause.drawn) (no_place turn_name w (live_turns past e.at) lacks))
  begins_drawn (ask.Authorize (verdict.Page why) browser presented) (reply.LoginPage w b again) h lacks = cc
  begins_drawn (ask.Authorize (verdict.Page why) browser presented) (reply.ConsentPage w b given client scopes) h lacks = cc
  begins_drawn (ask.Authorize (verdict.Refuse refusal) browser presented) (reply.LoginPage w b again) h lacks = cc
  begins_drawn (ask.Authorize (verdict.Refuse refusal) browser presented) (reply.ConsentPage w b given client scopes) h lacks = cc
  begins_drawn asked told h lacks = cc

  lacks_begun : (asked : OpAsk) (told : OpReply) (v : Word) → BeginsTurn asked told v → NoPlace turn_name v (live_turns past e.at) → lacks_turn past e.at asked told ≡ true
  lacks_begun (ask.Authorize judged browser presented) (reply.LoginPage w b again) v is none =
      let F : Word → Type 0 = λ x. NoPlace turn_name x (live_turns past e.at) in full_by turn_name w (live_turns past e.at) (subst F (sym is) none)
  lacks_begun (ask.Authorize judged browser presented) (reply.ConsentPage w b given client scopes) v is none =
      let F : Word → Type 0 = λ x. NoPlace turn_name x (live_turns past e.at) in full_by turn_name w (live_turns past e.at) (subst F (sym is) none)
  lacks_begun asked told v is none = absurd is

  -- ---- a session that would be left

  abbrev Beside : Option Word → Word → List SessionRow
  Beside presented w = sessions_beside presented w (live_sessions past e.at)

  -- a new session lacks room, where none is renewed
  record IsNew (user : ℕ) (presented given : Option Word) : Type 0 where
    word : Word
    given_is : given ≡ Some word
    unheld : session_renewed past e.at user presented ≡ None
    full : NoPlace session_name word (Beside presented word)

  new_by : (user : ℕ) (presented given : Option Word) (renewed : Option SessionRow) → session_renewed past e.at user presented ≡ renewed
      → lacks_new_session past e.at renewed presented given ≡ true → IsNew user presented given
  new_by user presented (Some w) None is lacks = record { word = w; given_is = refl; unheld = is; full = no_place session_name w (Beside presented w) lacks }
  new_by user presented (Some w) (Some row) is lacks = cc
  new_by user presented None renewed is lacks = cc

  left_drawn : (user : ℕ) (presented given : Option Word) → given ≡ Some (session_after past e user presented).word → IsNew user presented given
      → (given ≡ Some (fresh_word e.fresh 0)) × NoPlace session_name (fresh_word e.fresh 0) (Beside presented (fresh_word e.fresh 0))
  left_drawn user presented given is new =
      let W : Option SessionRow → Option Word = λ o. Some (session_left e user o).word in
      let drawn : given ≡ Some (fresh_word e.fresh 0) = is ∙ ap W new.unheld in
      let same : new.word ≡ fresh_word e.fresh 0 = (let k : Some new.word ≡ Some (fresh_word e.fresh 0) = sym new.given_is ∙ drawn in cc) in
      let F : Word → Type 0 = λ v. NoPlace session_name v (Beside presented v) in
      (drawn, subst F same new.full)

  session_place : (asked : OpAsk) (told : OpReply) → e.ask ≡ asked → op_reply c past e asked ≡ told → lacks_session past e.at asked told ≡ true → NoSessionPlace past e told
  session_place (ask.Login turn (Some user) browser presented) (reply.ConsentPage w b given client scopes) is h lacks =
      let cause = consent_page_asked c past e w b given client scopes (ask.Login turn (Some user) browser presented) h in
      let new = new_by user presented given (session_renewed past e.at user presented) refl lacks in
      let left = left_drawn user presented given cause.given_is new in
      record { turn = turn; user = user; browser = browser; presented = presented; asked = is; unheld = new.unheld; left = left.0; full = left.1 }
  session_place (ask.Login turn (Some user) browser presented) (reply.Answered answer given) is h lacks =
      let cause = answered_asked c past e answer given (ask.Login turn (Some user) browser presented) h in
      let new = new_by user presented given (session_renewed past e.at user presented) refl lacks in
      let left = left_drawn user presented given cause.given_is new in
      record { turn = turn; user = user; browser = browser; presented = presented; asked = is; unheld = new.unheld; left = left.0; full = left.1 }
  session_place (ask.Login turn (Some user) browser presented) (reply.Refused refusal given) is h lacks =
      let cause = refused_asked c past e refusal given (ask.Login turn (Some user) browser presented) h in
      let new = new_by user presented given (session_renewed past e.at user presented) refl lacks in
      let left = left_drawn user presented given cause.given_is new in
      record { turn = turn; user = user; browser = browser; presented = presented; asked = is; unheld = new.unheld; left = left.0; full = left.1 }
  session_place asked told is h lacks = cc

  lacks_new : (user : ℕ) (presented given : Option Word) (w : Word) → session_renewed past e.at user presented ≡ None → given ≡ Some w → NoPlace session_name w (Beside presented w)
      → lacks_new_session past e.at (session_renewed past e.at user presented) presented given ≡ true
  lacks_new user presented given w unheld is none =
      let R : Option SessionRow → Bool = λ o. lacks_new_session past e.at o presented given in
      let G : Option Word → Bool = λ o. lacks_new_session past e.at None presented o in
      ap R unheld ∙ ap G is ∙ full_by session_name w (Beside presented w) none

  lacks_left : (told : OpReply) (turn : Option Word) (user : ℕ) (browser presented : Option Word) (w : Word) → session_renewed past e.at user presented ≡ None → session_given told ≡ Some w
      → NoPlace session_name w (Beside presented w) → lacks_session past e.at (ask.Login turn (Some user) browser presented) told ≡ true
  lacks_left told turn user browser presented w unheld is none = lacks_new user presented (session_given told) w unheld is none

  -- ---- a code and an access token of a response

  wished : (flag : Bool) (v w : Word) → if_wished flag v ≡ Some w → v ≡ w
  wished true v w h = cc
  wished false v w h = cc

  pub code_drawn : (asked : OpAsk) (answer : Answer) (given : Option Word) (w : Word) → AnsweredCause c past e asked answer given → answer.code ≡ Some w → fresh_word e.fresh 2 ≡ w
  code_drawn (ask.Authorize (verdict.Grant wish) browser presented) answer given w cause is =
      let C : Answer → Option Word = λ a. a.code in wished wish.types.code (fresh_word e.fresh 2) w (ap C cause.answer_is ∙ is)
  code_drawn (ask.Login turn (Some user) browser presented) answer given w cause is =
      let C : Answer → Option Word = λ a. a.code in wished cause.row.wish.types.code (fresh_word e.fresh 2) w (ap C cause.answer_is ∙ is)
  code_drawn (ask.Consent turn true browser presented) answer given w cause is =
      let C : Answer → Option Word = λ a. a.code in wished cause.row.wish.types.code (fresh_word e.fresh 2) w (ap C cause.answer_is ∙ is)
  code_drawn other answer given w cause is = absurd cause

  pub access_drawn : (asked : OpAsk) (answer : Answer) (given : Option Word) (w : Word) → AnsweredCause c past e asked answer given → answer.access ≡ Some w → fresh_word e.fresh 3 ≡ w
  access_drawn (ask.Authorize (verdict.Grant wish) browser presented) answer given w cause is =
      let C : Answer → Option Word = λ a. a.access in wished wish.types.token (fresh_word e.fresh 3) w (ap C cause.answer_is ∙ is)
  access_drawn (ask.Login turn (Some user) browser presented) answer given w cause is =
      let C : Answer → Option Word = λ a. a.access in wished cause.row.wish.types.token (fresh_word e.fresh 3) w (ap C cause.answer_is ∙ is)
  access_drawn (ask.Consent turn true browser presented) answer given w cause is =
      let C : Answer → Option Word = λ a. a.access in wished cause.row.wish.types.token (fresh_word e.fresh 3) w (ap C cause.answer_is ∙ is)
  access_drawn other answer given w cause is = absurd cause

  pub redeemed_drawn : (asked : OpAsk) (w : Word) (id : List ℕ) → TokensCause c past e asked w id → fresh_word e.fresh 0 ≡ w
  redeemed_drawn (ask.Token (Ok grant)) w id cause = cause.drawn
  redeemed_drawn other w id cause = absurd cause

  code_by : (asked : OpAsk) (answer : Answer) (given found : Option Word) → op_reply c past e asked ≡ reply.Answered answer given → answer.code ≡ found → lacks_code past e.at found ≡ true
      → NoCodePlace past e (reply.Answered answer given)
  code_by asked answer given (Some w) h is lacks =
      let drawn = code_drawn asked answer given w (answered_asked c past e answer given asked h) is in
      let W : Word → Option Word = λ v. Some v in
      let F : Word → Type 0 = λ v. NoPlace code_name v (held_codes past e.at) in
      record { given = is ∙ ap W (sym drawn); full = subst F (sym drawn) (no_place code_name w (held_codes past e.at) lacks) }
  code_by asked answer given None h is lacks = cc

  code_place : (asked : OpAsk) (told : OpReply) → op_reply c past e asked ≡ told → lacks_code past e.at (code_in told) ≡ true → NoCodePlace past e told
  code_place asked (reply.Answered answer given) h lacks = code_by asked answer given answer.code h refl lacks
  code_place asked told h lacks = cc

  access_by : (asked : OpAsk) (answer : Answer) (given found : Option Word) → op_reply c past e asked ≡ reply.Answered answer given → answer.access ≡ found → lacks_access past e.at found ≡ true
      → NoAccessPlace past e (reply.Answered answer given)
  access_by asked answer given (Some w) h is lacks =
      let drawn = access_drawn asked answer given w (answered_asked c past e answer given asked h) is in
      record { word = w; drawn = inl drawn; given = is; full = no_place access_name w (live_accesses past e.at) lacks }
  access_by asked answer given None h is lacks = cc

  access_place : (asked : OpAsk) (told : OpReply) → op_reply c past e asked ≡ told → lacks_access past e.at (access_in told) ≡ true → NoAccessPlace past e told
  access_place asked (reply.Answered answer given) h lacks = access_by asked answer given answer.access h refl lacks
  access_place asked (reply.Tokens w id) h lacks =
      let drawn = redeemed_drawn asked w id (tokens_asked c past e asked w id h) in
      record { word = w; drawn = inr drawn; given = refl; full = no_place access_name w (live_accesses past e.at) lacks }
  access_place asked told h lacks = cc

  -- ---- all four tables

  one_of : (a b d f : Bool) → (a || b || d || f) ≡ true → (a ≡ true) ⊎ (b ≡ true) ⊎ (d ≡ true) ⊎ (f ≡ true)
  one_of true b d f h = inl refl
  one_of false true d f h = inr (inl refl)
  one_of false false true f h = inr (inr (inl refl))
  one_of false false false true h = inr (inr (inr refl))
  one_of false false false false h = cc

  one_place : (told : OpReply) → op_reply c past e e.ask ≡ told
      → (lacks_turn past e.at e.ask told ≡ true) ⊎ (lacks_session past e.at e.ask told ≡ true) ⊎ (lacks_code past e.at (code_in told) ≡ true) ⊎ (lacks_access past e.at (access_in told) ≡ true)
      → LacksPlace past e told
  one_place told h (inl lacks) = let turn = begins_drawn e.ask told h lacks in inl (record { begins = turn.0; full = turn.1 })
  one_place told h (inr (inl lacks)) = inr (inl (session_place e.ask told refl h lacks))
  one_place told h (inr (inr (inl lacks))) = inr (inr (inl (code_place e.ask told h lacks)))
  one_place told h (inr (inr (inr lacks))) = inr (inr (inr (access_place e.ask told h lacks)))

  pub lacks_place : (told : OpReply) → op_reply c past e e.ask ≡ told → lacks_room past e told ≡ true → LacksPlace past e told
  lacks_place told h lacks =
      one_place told h (one_of (lacks_turn past e.at e.ask told) (lacks_session past e.at e.ask told) (lacks_code past e.at (code_in told)) (lacks_access past e.at (access_in told)) lacks)

  pub full_has_a_cause : op_answer c past e ≡ reply.Full → FullCause c past e
  full_has_a_cause h = let lacks = full_lacks_room h in record { prepared = lacks.0; no_place = lacks_place (op_reply c past e e.ask) refl lacks.1 }

  any_of : (a b d f : Bool) → (a ≡ true) ⊎ (b ≡ true) ⊎ (d ≡ true) ⊎ (f ≡ true) → (a || b || d || f) ≡ true
  any_of true b d f h = refl
  any_of false true d f h = refl
  any_of false false true f h = refl
  any_of false false false true h = refl
  any_of false false false false (inl h) = cc
  any_of false false false false (inr (inl h)) = cc
  any_of false false false false (inr (inr (inl h))) = cc
  any_of false false false false (inr (inr (inr h))) = cc

  no_room : (told : OpReply) → LacksPlace past e told
      → (lacks_turn past e.at e.ask told ≡ true) ⊎ (lacks_session past e.at e.ask told ≡ true) ⊎ (lacks_code past e.at (code_in told) ≡ true) ⊎ (lacks_access past e.at (access_in told) ≡ true)
  no_room told (inl none) = inl (lacks_begun e.ask told (fresh_word e.fresh 1) none.begins none.full)
  no_room told (inr (inl none)) =
      let S : OpAsk → Bool = λ asked. lacks_session past e.at asked told in
      inr (inl (ap S none.asked ∙ lacks_left told none.turn none.user none.browser none.presented (fresh_word e.fresh 0) none.unheld none.left none.full))
  no_room told (inr (inr (inl none))) =
      let C : Option Word → Bool = λ o. lacks_code past e.at o in
      inr (inr (inl (ap C none.given ∙ full_by code_name (fresh_word e.fresh 2) (held_codes past e.at) none.full)))
  no_room told (inr (inr (inr none))) =
      let A : Option Word → Bool = λ o. lacks_access past e.at o in
      inr (inr (inr (ap A none.given ∙ full_by access_name none.word (live_accesses past e.at) none.full)))

  pub place_lacks : (told : OpReply) → LacksPlace past e told → lacks_room past e told ≡ true
  place_lacks told none =
      any_of (lacks_turn past e.at e.ask told) (lacks_session past e.at e.ask told) (lacks_code past e.at (code_in told)) (lacks_access past e.at (access_in told)) (no_room told none)

  pub cause_makes_full : FullCause c past e → op_answer c past e ≡ reply.Full
  cause_makes_full cause = full_without_room cause.prepared (place_lacks (op_reply c past e e.ask) cause.no_place)
