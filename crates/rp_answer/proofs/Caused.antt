-- The cause of each reply, by the reply. A reply that there is without regard to room and to logouts that came first is never
-- the refusal Full, nor EndedSid.
use Rattle.sso_base.specs.declared.history.Entry.{Entry}
use Rattle.rp_exchange.specs.declared.ask.RpAsk.{RpAsk}
use Rattle.rp_exchange.specs.declared.no.RpNo.TheVariants as no
use Rattle.rp_exchange.specs.declared.reply.RpReply.{RpReply}
use Rattle.rp_exchange.specs.declared.reply.RpReply.TheVariants.{Ask, Fragment, Exchange, Fetch, Entered, User, Nobody, Left, Ended, Refused, NotHere}
use Rattle.rp_answer.specs.Past.{RpPast}
use Rattle.rp_answer.specs.Setup.{PartySetup}
use Rattle.rp_answer.specs.Causes.{AskCause, FragmentCause, ExchangeCause, FetchCause, MayEnter, EnteredCause, SidEnded, UserCause, NobodyCause, LeftCause, EndedCause, RefusedCause}

abbrev pub Caused : PartySetup → RpPast → Entry RpAsk → RpAsk → RpReply → Type 0
Caused s past e asked (Ask to browser) = AskCause s past e asked to browser
Caused s past e asked Fragment = FragmentCause asked
Caused s past e asked (Exchange w message) = ExchangeCause s past e asked w message
Caused s past e asked (Fetch w message) = FetchCause s past e asked w message
Caused s past e asked (Entered w sub) = MayEnter s past e asked w sub
Caused s past e asked (User sub) = UserCause s past e asked sub
Caused s past e asked Nobody = NobodyCause s past e asked
Caused s past e asked (Left ended) = LeftCause s past e asked ended
Caused s past e asked (Ended count) = EndedCause s past e asked count
Caused s past e asked (Refused (no.Full table)) = ⊥
Caused s past e asked (Refused (no.EndedSid place)) = ⊥
Caused s past e asked (Refused why) = RefusedCause s past e asked why
Caused s past e asked NotHere = Unit {0}

-- a reply that there is without regard to room alone
abbrev pub ToldCaused : PartySetup → RpPast → Entry RpAsk → RpAsk → RpReply → Type 0
ToldCaused s past e asked (Entered w sub) = EnteredCause s past e asked w sub
ToldCaused s past e asked (Refused (no.EndedSid place)) = SidEnded s past e asked place
ToldCaused s past e asked reply = Caused s past e asked reply
