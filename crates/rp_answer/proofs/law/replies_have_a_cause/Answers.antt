use Rattle.std.proofs.Common.{refl}
use Rattle.rp_exchange.specs.declared.reply.RpReply.TheVariants as reply
use Rattle.rp_answer.specs.Causes.{AskCause, FragmentCause, ExchangeCause, FetchCause, EnteredCause, UserCause, NobodyCause, LeftCause, EndedCause}
use Rattle.rp_answer.proofs.Stood.{own_replies_stand, standing_is_the_answer}
use Rattle.rp_answer.proofs.Answers.{asks_have_a_cause, fragments_have_a_cause, exchanges_have_a_cause, fetches_have_a_cause, entered_have_a_cause, users_have_a_cause, nobody_has_a_cause, left_has_a_cause, ended_has_a_cause}
use Rattle.rp_answer.proofs.Coming.{comes, came}
use Rattle.rp_answer.proofs.Told.{ask_leads, fragment_leads, exchange_leads, fetch_leads, entered_leads, user_leads, nobody_leads, left_leads, ended_leads}
use Rattle.rp_answer.proofs.RefusalsCome.{refusals_come, refusals_came}
use Rattle.rp_answer.proofs.law.replies_have_a_cause.Goals as goal

pub returns-clause-own : goal.returns-clause-own
returns-clause-own c = λ s past e r own. (own_replies_stand s past e r own, standing_is_the_answer s past e r)

pub returns-clause-asks : goal.returns-clause-asks
returns-clause-asks c = λ s past e to browser. (
  comes s past e (reply.Ask to browser) refl (AskCause s past e e.ask to browser) (asks_have_a_cause s past e to browser),
  came s past e (reply.Ask to browser) (AskCause s past e e.ask to browser) (ask_leads s past e e.ask to browser),
)

pub returns-clause-exchanges : goal.returns-clause-exchanges
returns-clause-exchanges c = λ s past e w message. (
  comes s past e (reply.Exchange w message) refl (ExchangeCause s past e e.ask w message) (exchanges_have_a_cause s past e w message),
  came s past e (reply.Exchange w message) (ExchangeCause s past e e.ask w message) (exchange_leads s past e e.ask w message),
)

pub returns-clause-fragments : goal.returns-clause-fragments
returns-clause-fragments c = λ s past e. (
  comes s past e reply.Fragment refl (FragmentCause e.ask) (fragments_have_a_cause s past e),
  came s past e reply.Fragment (FragmentCause e.ask) (fragment_leads s past e e.ask),
)

pub returns-clause-fetches : goal.returns-clause-fetches
returns-clause-fetches c = λ s past e w message. (
  comes s past e (reply.Fetch w message) refl (FetchCause s past e e.ask w message) (fetches_have_a_cause s past e w message),
  came s past e (reply.Fetch w message) (FetchCause s past e e.ask w message) (fetch_leads s past e e.ask w message),
)

pub returns-clause-entered : goal.returns-clause-entered
returns-clause-entered c = λ s past e w sub. (
  comes s past e (reply.Entered w sub) refl (EnteredCause s past e e.ask w sub) (entered_have_a_cause s past e w sub),
  came s past e (reply.Entered w sub) (EnteredCause s past e e.ask w sub) (entered_leads s past e e.ask w sub),
)

pub returns-clause-users : goal.returns-clause-users
returns-clause-users c = λ s past e sub. (
  comes s past e (reply.User sub) refl (UserCause s past e e.ask sub) (users_have_a_cause s past e sub),
  came s past e (reply.User sub) (UserCause s past e e.ask sub) (user_leads s past e e.ask sub),
)

pub returns-clause-nobody : goal.returns-clause-nobody
returns-clause-nobody c = λ s past e. (
  comes s past e reply.Nobody refl (NobodyCause s past e e.ask) (nobody_has_a_cause s past e),
  came s past e reply.Nobody (NobodyCause s past e e.ask) (nobody_leads s past e e.ask),
)

pub returns-clause-left : goal.returns-clause-left
returns-clause-left c = λ s past e ended. (
  comes s past e (reply.Left ended) refl (LeftCause s past e e.ask ended) (left_has_a_cause s past e ended),
  came s past e (reply.Left ended) (LeftCause s past e e.ask ended) (left_leads s past e e.ask ended),
)

pub returns-clause-ended : goal.returns-clause-ended
returns-clause-ended c = λ s past e count. (
  comes s past e (reply.Ended count) refl (EndedCause s past e e.ask count) (ended_has_a_cause s past e count),
  came s past e (reply.Ended count) (EndedCause s past e e.ask count) (ended_leads s past e e.ask count),
)

pub returns-clause-refusals : goal.returns-clause-refusals
returns-clause-refusals c = λ s past e why. (refusals_come s past e why, refusals_came s past e why)
