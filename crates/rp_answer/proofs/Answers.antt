-- What each reply says of the past and of the ask that led to it, but for the refusals.
use Rattle.std.proofs.Common.{◌≡◌, ℕ, Bool, true, Option, Some, None, Ok, Err, refl, subst}
use Rattle.sso_base.specs.Words.{Word, Text}
use Rattle.sso_base.specs.declared.history.Entry.{Entry}
use Rattle.sso_base.specs.declared.message.Message.{Message}
use Rattle.auth_answer.specs.declared.no.AnswerNo.TheVariants as answer_no
use Rattle.rp_login.specs.declared.rows.DeadRow.{DeadRow}
use Rattle.rp_login.specs.declared.rows.SessionRow.{SessionRow}
use Rattle.rp_login.specs.declared.rows.Stage.TheVariants as stage
use Rattle.rp_exchange.specs.declared.ask.RpAsk.{RpAsk}
use Rattle.rp_exchange.specs.declared.ask.RpAsk.TheVariants as ask
use Rattle.rp_exchange.specs.declared.no.RpNo.TheVariants as no
use Rattle.rp_exchange.specs.declared.reply.RpReply.{RpReply}
use Rattle.rp_exchange.specs.declared.reply.RpReply.TheVariants.{Ask, Fragment, Exchange, Fetch, Entered, User, Nobody, Left, Ended, Refused}
use Rattle.rp_exchange.specs.Asks.{is_prepared}
use Rattle.rp_answer.specs.Past.{RpPast}
use Rattle.rp_answer.specs.Setup.{PartySetup, party_of}
use Rattle.rp_answer.specs.Pendings.{live_pending}
use Rattle.rp_answer.specs.Visits.{live_visit}
use Rattle.rp_answer.specs.Replies.{visited}
use Rattle.rp_answer.specs.Alive.{dead_for, unless_dead}
use Rattle.rp_answer.specs.Answering.{rp_reply, rp_told, rp_answer}
use Rattle.rp_answer.specs.Causes.{is_own, AskCause, FragmentCause, ExchangeCause, FetchCause, EnteredCause, UserCause, NobodyCause, LeftCause, EndedCause}
use Rattle.rp_answer.proofs.Stood.{own_replies_stand}
use Rattle.rp_answer.proofs.Caused.{Caused, ToldCaused}
use Rattle.rp_answer.proofs.Responses.{responses_caused}
use Rattle.rp_answer.proofs.TokenResponses.{tokens_caused}
use Rattle.rp_answer.proofs.InfoResponses.{infos_caused}
use Rattle.rp_answer.proofs.LogoutRequests.{logouts_caused}

module _ (s : PartySetup) (past : RpPast) (e : Entry RpAsk) where
  visit_by : (session : Option Word) (found : Option SessionRow) → live_visit (party_of s).types past e.at session ≡ found → Caused s past e (ask.Visit session) (visited found)
  visit_by session None none = none
  visit_by session (Some visit) live = record { visit = visit; live = live; sub_is = refl }

  pub replies_caused : (asked : RpAsk) → is_prepared asked ≡ true → Caused s past e asked (rp_reply s past e asked)
  replies_caused (ask.Begin presented) prepared = record { location = refl; browser_is = refl }
  replies_caused ask.Fragment prepared = tt
  replies_caused (ask.Callback (Err (answer_no.Twice name)) id browser) prepared = refl
  replies_caused (ask.Callback (Err answer_no.NoMemory) id browser) prepared = tt
  replies_caused (ask.Callback (Ok heard) id browser) prepared = responses_caused s past e heard id browser heard.state refl
  replies_caused (ask.Tokens w came id) prepared = tokens_caused s past e w (live_pending (party_of s).types past e.at w stage.Tokens) refl came id prepared
  replies_caused (ask.Info w came) prepared = infos_caused s past e w (live_pending (party_of s).types past e.at w stage.Info) refl came
  replies_caused (ask.Visit session) prepared = visit_by session (live_visit (party_of s).types past e.at session) refl
  replies_caused (ask.Leave session) prepared = refl
  replies_caused (ask.Logout claims) prepared = logouts_caused s past e claims
  replies_caused ask.NotHere prepared = tt

  -- a session begins where no logout came first, and is refused where one did
  told_by : (asked : RpAsk) (reply : RpReply) (found : Option DeadRow) → dead_for (party_of s).types past e.at asked ≡ found → Caused s past e asked reply → ToldCaused s past e asked (unless_dead reply found)
  told_by asked (Entered w sub) None is cause = record { enters = cause; alive = is }
  told_by asked (Entered w sub) (Some row) is cause = record { word = w; sub = sub; enters = cause; dead = row; remembered = is; place_is = refl }
  told_by asked (Refused (no.Full table)) found is cause = absurd cause
  told_by asked (Refused (no.EndedSid place)) found is cause = absurd cause
  told_by asked reply found is cause = cause

  pub told_caused : (asked : RpAsk) → is_prepared asked ≡ true → ToldCaused s past e asked (rp_told s past e asked)
  told_caused asked prepared = told_by asked (rp_reply s past e asked) (dead_for (party_of s).types past e.at asked) refl (replies_caused asked prepared)

  -- a reply that is the relying party's own has its cause
  pub own_replies_caused : (reply : RpReply) → is_own reply ≡ true → rp_answer s past e ≡ reply → ToldCaused s past e e.ask reply
  own_replies_caused reply own h =
      let stood = own_replies_stand s past e reply own h in
      let C : RpReply → Type 0 = ToldCaused s past e e.ask in
      subst C stood.reply_is (told_caused e.ask stood.prepared)

  pub asks_have_a_cause : (to : Text) (browser : Word) → rp_answer s past e ≡ Ask to browser → AskCause s past e e.ask to browser
  asks_have_a_cause to browser h = own_replies_caused (Ask to browser) refl h

  pub exchanges_have_a_cause : (w : Word) (message : Message) → rp_answer s past e ≡ Exchange w message → ExchangeCause s past e e.ask w message
  exchanges_have_a_cause w message h = own_replies_caused (Exchange w message) refl h

  pub fragments_have_a_cause : rp_answer s past e ≡ Fragment → FragmentCause e.ask
  fragments_have_a_cause h = own_replies_caused Fragment refl h

  pub fetches_have_a_cause : (w : Word) (message : Message) → rp_answer s past e ≡ Fetch w message → FetchCause s past e e.ask w message
  fetches_have_a_cause w message h = own_replies_caused (Fetch w message) refl h

  pub entered_have_a_cause : (w : Word) (sub : Text) → rp_answer s past e ≡ Entered w sub → EnteredCause s past e e.ask w sub
  entered_have_a_cause w sub h = own_replies_caused (Entered w sub) refl h

  pub left_has_a_cause : (ended : Bool) → rp_answer s past e ≡ Left ended → LeftCause s past e e.ask ended
  left_has_a_cause ended h = own_replies_caused (Left ended) refl h

  pub ended_has_a_cause : (count : ℕ) → rp_answer s past e ≡ Ended count → EndedCause s past e e.ask count
  ended_has_a_cause count h = own_replies_caused (Ended count) refl h

  pub users_have_a_cause : (sub : Text) → rp_answer s past e ≡ User sub → UserCause s past e e.ask sub
  users_have_a_cause sub h = own_replies_caused (User sub) refl h

  pub nobody_has_a_cause : rp_answer s past e ≡ Nobody → NobodyCause s past e e.ask
  nobody_has_a_cause h = own_replies_caused Nobody refl h
