-- What each cause leads to: the reply that there is, were there always room.
use Rattle.std.proofs.Common.{◌≡◌, ℕ, Bool, true, Option, ◌∙◌, ap}
use Rattle.sso_base.specs.Words.{Word, Text}
use Rattle.sso_base.specs.declared.history.Entry.{Entry}
use Rattle.sso_base.specs.declared.message.Message.{Message}
use Rattle.rp_login.specs.declared.rows.DeadRow.{DeadRow}
use Rattle.rp_exchange.specs.declared.ask.RpAsk.{RpAsk}
use Rattle.rp_exchange.specs.declared.no.RpNo.{RpNo}
use Rattle.rp_exchange.specs.declared.no.RpNo.TheVariants as no
use Rattle.rp_exchange.specs.declared.reply.RpReply.{RpReply}
use Rattle.rp_exchange.specs.declared.reply.RpReply.TheVariants.{Ask, Fragment, Exchange, Fetch, Entered, User, Nobody, Left, Ended, Refused}
use Rattle.rp_answer.specs.Past.{RpPast}
use Rattle.rp_answer.specs.Setup.{PartySetup, party_of}
use Rattle.rp_answer.specs.Alive.{dead_for, enter_unless, unless_dead}
use Rattle.rp_answer.specs.Answering.{rp_reply, rp_told}
use Rattle.rp_answer.specs.Causes.{AskCause, FragmentCause, ExchangeCause, FetchCause, EnteredCause, SidEnded, UserCause, NobodyCause, LeftCause, EndedCause, RefusedCause}
use Rattle.rp_answer.proofs.Leading.{is_plain, ask_replied, fragment_replied, exchange_replied, fetch_replied, entered_replied, user_replied, nobody_replied, left_replied, ended_replied, refusal_replied}

module _ (s : PartySetup) (past : RpPast) (e : Entry RpAsk) where
  abbrev dead : RpAsk → Option DeadRow
  dead asked = dead_for (party_of s).types past e.at asked

  told_as : (asked : RpAsk) (reply : RpReply) → rp_reply s past e asked ≡ reply → rp_told s past e asked ≡ unless_dead reply (dead asked)
  told_as asked reply h = let U : RpReply → RpReply = λ r. unless_dead r (dead asked) in ap U h

  pub ask_leads : (asked : RpAsk) (to : Text) (browser : Word) → AskCause s past e asked to browser → rp_told s past e asked ≡ Ask to browser
  ask_leads asked to browser cause = told_as asked (Ask to browser) (ask_replied s past e asked to browser cause)

  pub fragment_leads : (asked : RpAsk) → FragmentCause asked → rp_told s past e asked ≡ Fragment
  fragment_leads asked cause = told_as asked Fragment (fragment_replied s past e asked cause)

  pub exchange_leads : (asked : RpAsk) (w : Word) (message : Message) → ExchangeCause s past e asked w message → rp_told s past e asked ≡ Exchange w message
  exchange_leads asked w message cause = told_as asked (Exchange w message) (exchange_replied s past e asked w message cause)

  pub fetch_leads : (asked : RpAsk) (w : Word) (message : Message) → FetchCause s past e asked w message → rp_told s past e asked ≡ Fetch w message
  fetch_leads asked w message cause = told_as asked (Fetch w message) (fetch_replied s past e asked w message cause)

  pub entered_leads : (asked : RpAsk) (w : Word) (sub : Text) → EnteredCause s past e asked w sub → rp_told s past e asked ≡ Entered w sub
  entered_leads asked w sub cause =
      let D : Option DeadRow → RpReply = λ o. enter_unless (Entered w sub) o in
      told_as asked (Entered w sub) (entered_replied s past e asked w sub cause.enters) ∙ ap D cause.alive

  -- the session that a logout overtook
  pub sid_leads : (asked : RpAsk) (place : ℕ) → SidEnded s past e asked place → rp_told s past e asked ≡ Refused (no.EndedSid place)
  sid_leads asked place cause =
      let D : Option DeadRow → RpReply = λ o. enter_unless (Entered cause.word cause.sub) o in
      let P : ℕ → RpReply = λ n. Refused (no.EndedSid n) in
      told_as asked (Entered cause.word cause.sub) (entered_replied s past e asked cause.word cause.sub cause.enters) ∙ (ap D cause.remembered ∙ ap P cause.place_is)

  pub user_leads : (asked : RpAsk) (sub : Text) → UserCause s past e asked sub → rp_told s past e asked ≡ User sub
  user_leads asked sub cause = told_as asked (User sub) (user_replied s past e asked sub cause)

  pub nobody_leads : (asked : RpAsk) → NobodyCause s past e asked → rp_told s past e asked ≡ Nobody
  nobody_leads asked cause = told_as asked Nobody (nobody_replied s past e asked cause)

  pub left_leads : (asked : RpAsk) (ended : Bool) → LeftCause s past e asked ended → rp_told s past e asked ≡ Left ended
  left_leads asked ended cause = told_as asked (Left ended) (left_replied s past e asked ended cause)

  pub ended_leads : (asked : RpAsk) (count : ℕ) → EndedCause s past e asked count → rp_told s past e asked ≡ Ended count
  ended_leads asked count cause = told_as asked (Ended count) (ended_replied s past e asked count cause)

  -- a refusal other than Full and EndedSid
  pub refusal_leads : (asked : RpAsk) (why : RpNo) → is_plain why ≡ true → RefusedCause s past e asked why → rp_told s past e asked ≡ Refused why
  refusal_leads asked why plain cause = told_as asked (Refused why) (refusal_replied s past e asked why plain cause)
