-- The turn, the code and the access token that a pair makes, from what lives before it.
use Rattle.std.proofs.Common.{◌≡◌, ℕ, Bool, true, false, cond, [], ◌∷◌, length, Option, Some, None, Ok, option_map, option_and_then, refl, sym, ◌∙◌, ap, subst}
use Rattle.sso_base.specs.Words.{Word, is_word, word_of_text}
use Rattle.sso_base.specs.Rows.{row_of}
use Rattle.sso_base.specs.Stands.{is_named}
use Rattle.sso_base.specs.declared.history.Entry.{Entry}
use Rattle.sso_base.proofs.RowLaws.{bytes_true, row_of-more}
use Rattle.client_registry.specs.Configuration.{Configuration}
use Rattle.auth_request.specs.declared.wish.Wish.{Wish}
use Rattle.auth_request.specs.declared.wish.Verdict.TheVariants as verdict
use Rattle.auth_answer.specs.declared.answer.Answer.{Answer}
use Rattle.code_grant.specs.declared.rows.TurnRow.{TurnRow}
use Rattle.code_grant.specs.declared.rows.SessionRow.{SessionRow}
use Rattle.code_grant.specs.declared.rows.CodeRow.{CodeRow}
use Rattle.code_grant.specs.declared.rows.TokenRow.{TokenRow}
use Rattle.code_grant.specs.Rows.{session_name, session_begun, code_begun}
use Rattle.oidc_words.specs.Lives.{session_life, code_life}
use Rattle.op_exchange.specs.declared.ask.OpAsk.{OpAsk}
use Rattle.op_exchange.specs.declared.ask.OpAsk.TheVariants as ask
use Rattle.op_exchange.specs.declared.reply.OpReply.{OpReply}
use Rattle.op_exchange.specs.declared.reply.OpReply.TheVariants as reply
use Rattle.op_answer.specs.Past.{OpPair, OpPast}
use Rattle.op_answer.specs.Sessions.{session_set, signed_user, session_used, wish_by, client_answered, and_client, session_made_by, session_made, session_kept, ends_session, sessions, session_of, live_session}
use Rattle.op_answer.specs.Codes.{code_made_by, code_made, codes_issued, code_of}
use Rattle.op_answer.specs.AccessTokens.{access_answered, access_redeemed, access_given, access_made, accesses}
use Rattle.op_answer.specs.Replies.{session_after}
use Rattle.op_answer.specs.Answering.{op_answer}
use Rattle.op_answer.specs.Causes.{AnsweredCause, TokensCause}
use Rattle.op_core.specs.Making.{wish_found, session_found, client_found, session_with, session_put_by, code_put, access_put_by, access_put}
use Rattle.op_answer.proofs.KeptNames.{session_names}
use Rattle.held_rows.proofs.Found.{row_that_lives}
use Rattle.op_core.proofs.MadeSessions.{turn_stands, wish_same, session_makes}
use Rattle.op_answer.proofs.Answers.{answers_have_a_cause}
use Rattle.op_answer.proofs.TokenResponses.{tokens_have_a_cause}

-- ---- what codes and access tokens take of a session: all but its clients

abbrev bare : SessionRow → SessionRow
bare session = record session { clients = [] }

abbrev bared : Option SessionRow → Option SessionRow
bared found = option_map (λ (session : SessionRow). bare session) found

code_bared : (by at : ℕ) (w : Option Word) (wish : Option Wish) (found : Option SessionRow) → code_made_by by at w wish (bared found) ≡ code_made_by by at w wish found
code_bared by at (Some w) (Some wish) (Some session) = refl
code_bared by at (Some w) (Some wish) None = refl
code_bared by at (Some w) None found = refl
code_bared by at None wish found = refl

access_bared : (by at : ℕ) (w : Option Word) (wish : Option Wish) (found : Option SessionRow) → access_answered by at w wish (bared found) ≡ access_answered by at w wish found
access_bared by at (Some w) (Some wish) (Some session) = refl
access_bared by at (Some w) (Some wish) None = refl
access_bared by at (Some w) None found = refl
access_bared by at None wish found = refl

kept_bare : (uses : Bool) (session used : SessionRow) → bare used ≡ bare session → bared (cond uses (Some used) (Some session)) ≡ Some (bare session)
kept_bare true session used h = let S : SessionRow → Option SessionRow = λ s. Some s in ap S h
kept_bare false session used h = refl

-- ---- a session after one more pair

module _ (past : OpPast) (p : OpPair) where
  -- a pair that makes none and ends none leaves all but its clients
  stays : (v : Word) (session : SessionRow) → session_made (sessions past) past p ≡ None → ends_session p.entry.ask p.reply session.word ≡ false
      → row_of session_name v (sessions past) ≡ Some session → bared (row_of session_name v (sessions (p ∷ past))) ≡ Some (bare session)
  stays v session unmade unended there =
      let used : SessionRow = record session { clients = and_client (client_answered past p) session.clients } in
      let uses : Bool = is_word (session_used past p.entry.ask p.reply) session.word in
      let B : Option SessionRow → Option SessionRow = λ o. bared o in
      let M : Option SessionRow → Option SessionRow = λ m. bared (cond (is_named session_name v m) m (option_and_then (session_kept past p) (row_of session_name v (sessions past)))) in
      let K : Option SessionRow → Option SessionRow = λ o. bared (option_and_then (session_kept past p) o) in
      let E : Bool → Option SessionRow = λ b. bared (cond b None (cond uses (Some used) (Some session))) in
      ap B (row_of-more session_name session_made session_kept session_names v p past) ∙ ap M unmade ∙ ap K there ∙ ap E unended ∙ kept_bare uses session used refl

  session_stays : (at : ℕ) (presented : Option Word) (session : SessionRow) → session_made (sessions past) past p ≡ None → ends_session p.entry.ask p.reply session.word ≡ false
      → live_session past at presented ≡ Some session → bared (session_of (p ∷ past) presented) ≡ Some (bare session)
  session_stays at None session unmade unended live = cc
  session_stays at (Some v) session unmade unended live =
      stays v session unmade unended (row_that_lives session_life session_begun at (row_of session_name v (sessions past)) session live)

  -- the one that it makes is found
  made_found : (made : SessionRow) → session_made (sessions past) past p ≡ Some made → row_of session_name made.word (sessions (p ∷ past)) ≡ Some made
  made_found made h =
      let M : Option SessionRow → Option SessionRow = λ m. cond (is_named session_name made.word m) m (option_and_then (session_kept past p) (row_of session_name made.word (sessions past))) in
      let T : Bool → Option SessionRow = λ b. cond b (Some made) (option_and_then (session_kept past p) (row_of session_name made.word (sessions past))) in
      row_of-more session_name session_made session_kept session_names made.word p past ∙ ap M h ∙ ap T (bytes_true made.word made.word refl)

-- ---- a successful response

module _ (c : Configuration) (past : OpPast) (e : Entry OpAsk) (answer : Answer) (given : Option Word) (led : op_answer c past e ≡ reply.Answered answer given) where
  abbrev this : OpReply
  this = reply.Answered answer given

  abbrev pair : OpPair
  pair = record { entry = e; reply = this }

  -- the session that it used is the one that lives before it, or that the login leaves
  session_same : (asked : OpAsk) → e.ask ≡ asked → AnsweredCause c past e asked answer given
      → bared (session_of (pair ∷ past) (session_used past asked this)) ≡ bared (session_found past e asked)
  session_same (ask.Authorize (verdict.Grant wish) b presented) is h =
      let M : OpAsk → Option SessionRow = λ a. session_made_by (sessions past) past pair (session_set a this) (signed_user a) in
      let E : OpAsk → Bool = λ a. ends_session a this h.session.word in
      let B : Option SessionRow → Option SessionRow = λ o. bared o in
      session_stays past pair e.at presented h.session (ap M is) (ap E is) h.live ∙ sym (ap B h.live)
  session_same (ask.Login turn (Some user) b presented) is h =
      let session : SessionRow = session_after past e user presented in
      let client : Option ℕ = client_found past e this in
      let P : OpAsk → Option SessionRow = λ a. session_put_by past e client a (session_set a this) in
      let Q : Option Word → Option SessionRow = λ w. session_put_by past e client (ask.Login turn (Some user) b presented) w in
      let made : session_made (sessions past) past pair ≡ Some (session_with client session) = session_makes c past e this led ∙ ap P is ∙ ap Q h.given_is in
      let S : Option Word → Option SessionRow = λ w. bared (session_of (pair ∷ past) w) in
      let B : Option SessionRow → Option SessionRow = λ o. bared o in
      ap S h.given_is ∙ ap B (made_found past pair (session_with client session) made)
  session_same (ask.Consent turn true b presented) is h =
      let M : OpAsk → Option SessionRow = λ a. session_made_by (sessions past) past pair (session_set a this) (signed_user a) in
      let E : OpAsk → Bool = λ a. ends_session a this h.session.word in
      let U : Option TurnRow → Option SessionRow = λ o. bared (session_of (pair ∷ past) (option_and_then (λ (row : TurnRow). row.session) o)) in
      let F : Option TurnRow → Option SessionRow = λ o. bared (option_and_then (λ (row : TurnRow). live_session past e.at row.session) o) in
      let B : Option SessionRow → Option SessionRow = λ o. bared o in
      ap U (turn_stands c past e turn h.row h.own.own.live) ∙ session_stays past pair e.at h.row.session h.session (ap M is) (ap E is) h.own.live
      ∙ sym (ap F h.own.own.live ∙ ap B h.own.live)
  session_same other is h = absurd h

  code_same : (asked : OpAsk) → e.ask ≡ asked → AnsweredCause c past e asked answer given
      → code_made_by (length past) e.at answer.code (wish_by past asked) (session_of (pair ∷ past) (session_used past asked this))
      ≡ code_made_by (length past) e.at answer.code (wish_found past e.at asked) (session_found past e asked)
  code_same asked is h =
      let used = session_of (pair ∷ past) (session_used past asked this) in
      let W : Option Wish → Option CodeRow = λ o. code_made_by (length past) e.at answer.code o used in
      let S : Option SessionRow → Option CodeRow = λ o. code_made_by (length past) e.at answer.code (wish_found past e.at asked) o in
      ap W (wish_same c past e answer given asked h) ∙ sym (code_bared (length past) e.at answer.code (wish_found past e.at asked) used)
      ∙ ap S (session_same asked is h) ∙ code_bared (length past) e.at answer.code (wish_found past e.at asked) (session_found past e asked)

  access_same : (asked : OpAsk) → e.ask ≡ asked → AnsweredCause c past e asked answer given
      → access_answered (length past) e.at answer.access (wish_by past asked) (session_of (pair ∷ past) (session_used past asked this))
      ≡ access_answered (length past) e.at answer.access (wish_found past e.at asked) (session_found past e asked)
  access_same asked is h =
      let used = session_of (pair ∷ past) (session_used past asked this) in
      let W : Option Wish → Option TokenRow = λ o. access_answered (length past) e.at answer.access o used in
      let S : Option SessionRow → Option TokenRow = λ o. access_answered (length past) e.at answer.access (wish_found past e.at asked) o in
      ap W (wish_same c past e answer given asked h) ∙ sym (access_bared (length past) e.at answer.access (wish_found past e.at asked) used)
      ∙ ap S (session_same asked is h) ∙ access_bared (length past) e.at answer.access (wish_found past e.at asked) (session_found past e asked)

-- ---- the laws

module _ (c : Configuration) (past : OpPast) (e : Entry OpAsk) where
  pub code_makes : (told : OpReply) → op_answer c past e ≡ told → code_made (codes_issued past) past (record { entry = e; reply = told }) ≡ code_put past e told
  code_makes (reply.Answered answer given) h = code_same c past e answer given h e.ask refl (answers_have_a_cause c past e answer given h)
  code_makes other h = refl

  access_by : (asked : OpAsk) (told : OpReply) → e.ask ≡ asked → op_answer c past e ≡ told
      → access_given past (record { entry = e; reply = told }) asked told ≡ access_put_by past e asked told (wish_found past e.at asked) (session_found past e asked)
  access_by (ask.Token (Ok grant)) (reply.Tokens w id) is h =
      let C : OpAsk → Type 0 = λ a. TokensCause c past e a w id in
      let cause : C (ask.Token (Ok grant)) = subst C is (tokens_have_a_cause c past e w id h) in
      let A : Option CodeRow → Option TokenRow = λ o. access_redeemed (length past) e.at w o in
      ap A (row_that_lives code_life code_begun e.at (code_of past (word_of_text grant.code)) cause.code cause.held ∙ sym cause.held)
  access_by asked (reply.Answered answer given) is h =
      let C : OpAsk → Type 0 = λ a. AnsweredCause c past e a answer given in
      access_same c past e answer given h asked is (subst C is (answers_have_a_cause c past e answer given h))
  access_by asked told is h = refl

  pub access_makes : (told : OpReply) → op_answer c past e ≡ told → access_made (accesses past) past (record { entry = e; reply = told }) ≡ access_put past e told
  access_makes told h = access_by e.ask told refl h
