-- What successful authorization responses say.
use Rattle.std.proofs.Common.{◌≡◌, ℕ, Bool, true, false, Option, Some, None, refl, inl, inr}
use Rattle.sso_base.specs.Words.{Word}
use Rattle.sso_base.specs.declared.history.Entry.{Entry}
use Rattle.client_registry.specs.Configuration.{Configuration}
use Rattle.auth_request.specs.declared.wish.Wish.{Wish}
use Rattle.auth_request.specs.declared.wish.Verdict.TheVariants as verdict
use Rattle.user_interaction.specs.declared.need.Need.{Need}
use Rattle.user_interaction.specs.declared.need.Need.TheVariants as need
use Rattle.auth_answer.specs.declared.answer.Answer.{Answer}
use Rattle.code_grant.specs.declared.rows.TurnRow.{TurnRow}
use Rattle.code_grant.specs.declared.rows.SessionRow.{SessionRow}
use Rattle.op_exchange.specs.declared.ask.OpAsk.{OpAsk}
use Rattle.op_exchange.specs.declared.ask.OpAsk.TheVariants as ask
use Rattle.op_exchange.specs.declared.reply.OpReply.{OpReply}
use Rattle.op_exchange.specs.declared.reply.OpReply.TheVariants.{Answered}
use Rattle.op_answer.specs.Past.{OpPast}
use Rattle.op_answer.specs.Sessions.{live_session}
use Rattle.op_answer.specs.Replies.{authorize_by, page_browser, login_by, consent_by, session_after}
use Rattle.op_answer.specs.Answering.{op_reply, op_answer}
use Rattle.op_answer.specs.Causes.{OwnTurn, OwnConsent, AnsweredAtOnce, AnsweredAfterLogin, AnsweredAfterYes, AnsweredCause, need_at_once, need_after_login, need_after_yes}
use Rattle.op_answer.proofs.Standing.{own_replies_stand}
use Rattle.op_answer.proofs.Forms.{LoginLed, LoginSeen, login_led, ConsentLed, ConsentSeen, consent_led, token_told, info_told, sign_out_told}

module _ (c : Configuration) (past : OpPast) (e : Entry OpAsk) (answer : Answer) (given : Option Word) where
  abbrev this : OpReply
  this = Answered answer given

  answered_by : (wish : Wish) (browser presented : Option Word) (wanted : Need) (session : Option SessionRow)
      → live_session past e.at presented ≡ session → need_at_once c past e wish session ≡ wanted
      → authorize_by c e wish (page_browser past e browser) wanted session ≡ this → AnsweredAtOnce c past e wish presented answer given
  answered_by wish browser presented (need.Error code) session live wants h = cc
  answered_by wish browser presented need.Consent (Some session) live wants h = cc
  answered_by wish browser presented need.Consent None live wants h = cc
  answered_by wish browser presented need.Answer (Some session) live wants h =
      record { session = session; live = live; enough = wants; answer_is = cc; none_given = cc }
  answered_by wish browser presented need.Answer None live wants h = cc
  answered_by wish browser presented need.Login session live wants h = cc

  answered_signed : (turn : Option Word) (user : ℕ) (browser presented : Option Word) (row : TurnRow) → OwnTurn past e turn browser row → (wanted : Need)
      → need_after_login c past e row (session_after past e user presented) ≡ wanted
      → login_by c e row (session_after past e user presented) wanted ≡ this → AnsweredAfterLogin c past e turn user browser presented answer given
  answered_signed turn user browser presented row own (need.Error code) wants h = cc
  answered_signed turn user browser presented row own need.Login wants h = cc
  answered_signed turn user browser presented row own need.Consent wants h = cc
  answered_signed turn user browser presented row own need.Answer wants h = record { row = row; own = own; enough = wants; answer_is = cc; given_is = cc }

  answered_seen : (turn : Option Word) (signed : Option ℕ) (browser presented : Option Word) → LoginSeen c past e this turn signed browser presented
      → AnsweredCause c past e (ask.Login turn signed browser presented) answer given
  answered_seen turn None browser presented seen = let h = seen.led in cc
  answered_seen turn (Some user) browser presented seen =
      answered_signed turn user browser presented seen.row seen.own (need_after_login c past e seen.row (session_after past e user presented)) refl seen.led

  answered_after : (turn : Option Word) (signed : Option ℕ) (browser presented : Option Word) → LoginLed c past e this turn signed browser presented
      → AnsweredCause c past e (ask.Login turn signed browser presented) answer given
  answered_after turn signed browser presented (inl led) = let h = led.1 in cc
  answered_after turn signed browser presented (inr (inl led)) = let h = led.1 in cc
  answered_after turn signed browser presented (inr (inr seen)) = answered_seen turn signed browser presented seen

  answered_yes : (turn browser presented : Option Word) (row : TurnRow) (session : SessionRow) → OwnConsent past e turn browser presented row session → (wanted : Need)
      → need_after_yes c past e row session ≡ wanted → consent_by c e row session wanted ≡ this → AnsweredAfterYes c past e turn browser presented answer given
  answered_yes turn browser presented row session own (need.Error code) wants h = cc
  answered_yes turn browser presented row session own need.Login wants h = cc
  answered_yes turn browser presented row session own need.Consent wants h = cc
  answered_yes turn browser presented row session own need.Answer wants h =
      record { row = row; session = session; own = own; enough = wants; answer_is = cc; none_given = cc }

  answered_decided : (turn : Option Word) (agree : Bool) (browser presented : Option Word) → ConsentSeen c past e this turn agree browser presented
      → AnsweredCause c past e (ask.Consent turn agree browser presented) answer given
  answered_decided turn false browser presented seen = let h = seen.led in cc
  answered_decided turn true browser presented seen =
      answered_yes turn browser presented seen.row seen.session seen.own (need_after_yes c past e seen.row seen.session) refl seen.led

  answered_consent : (turn : Option Word) (agree : Bool) (browser presented : Option Word) → ConsentLed c past e this turn agree browser presented
      → AnsweredCause c past e (ask.Consent turn agree browser presented) answer given
  answered_consent turn agree browser presented (inl led) = let h = led.1 in cc
  answered_consent turn agree browser presented (inr (inl led)) = let h = led.1 in cc
  answered_consent turn agree browser presented (inr (inr seen)) = answered_decided turn agree browser presented seen

  pub answered_asked : (asked : OpAsk) → op_reply c past e asked ≡ this → AnsweredCause c past e asked answer given
  answered_asked (ask.Authorize (verdict.Page why) browser presented) h = cc
  answered_asked (ask.Authorize (verdict.Refuse refusal) browser presented) h = cc
  answered_asked (ask.Authorize (verdict.Grant wish) browser presented) h =
      let session = live_session past e.at presented in
      answered_by wish browser presented (need_at_once c past e wish session) session refl refl h
  answered_asked (ask.Login turn signed browser presented) h =
      answered_after turn signed browser presented (login_led c past e this turn signed browser presented h)
  answered_asked (ask.Consent turn agree browser presented) h =
      answered_consent turn agree browser presented (consent_led c past e this turn agree browser presented h)
  answered_asked (ask.Token grant) h = let told = token_told c past e this grant h in cc
  answered_asked (ask.Info bearer) h = let told = info_told c past e this bearer h in cc
  answered_asked (ask.SignOut session) h = let told = sign_out_told c past e this session h in cc
  answered_asked ask.Metadata h = cc
  answered_asked ask.Keys h = cc
  answered_asked ask.Twice h = cc
  answered_asked ask.NotHere h = cc

  pub answers_have_a_cause : op_answer c past e ≡ Answered answer given → AnsweredCause c past e e.ask answer given
  answers_have_a_cause h = answered_asked e.ask (own_replies_stand c past e this refl h).reply_is
