-- A relying party's answer to an entry, as a function of its past.
use Rattle.std.specs.Prelude.{if◌then◌else◌}
use Rattle.sso_base.specs.declared.history.Entry.{Entry}
use Rattle.rp_login.specs.declared.rows.Stage.TheVariants as stage
use Rattle.rp_exchange.specs.declared.ask.RpAsk.{RpAsk}
use Rattle.rp_exchange.specs.declared.ask.RpAsk.TheVariants as ask
use Rattle.rp_exchange.specs.declared.reply.RpReply.{RpReply}
use Rattle.rp_exchange.specs.declared.reply.RpReply.TheVariants.{Fragment, NotHere}
use Rattle.rp_exchange.specs.Asks.{is_prepared}
use Rattle.rp_answer.specs.Past.{RpPast}
use Rattle.rp_answer.specs.Setup.{PartySetup, party_of}
use Rattle.rp_answer.specs.Pendings.{live_pending}
use Rattle.rp_answer.specs.Visits.{live_visit}
use Rattle.rp_answer.specs.Replies.{begin, callback, tokens, info, visited, left, logout}
use Rattle.rp_answer.specs.Alive.{dead_for, unless_dead}
use Rattle.rp_answer.specs.Room.{unless_full}

-- the reply, if no table were full and no logout had come before its login
abbrev pub rp_reply : PartySetup → RpPast → Entry RpAsk → RpAsk → RpReply
rp_reply s past e (ask.Begin browser) = begin s past e browser
rp_reply s past e ask.Fragment = Fragment
rp_reply s past e (ask.Callback heard id browser) = callback s past e heard id browser
rp_reply s past e (ask.Tokens w came id) = tokens s e (live_pending (party_of s).types past e.at w stage.Tokens) came id
rp_reply s past e (ask.Info w came) = info e (live_pending (party_of s).types past e.at w stage.Info) came
rp_reply s past e (ask.Visit session) = visited (live_visit (party_of s).types past e.at session)
rp_reply s past e (ask.Leave session) = left (live_visit (party_of s).types past e.at session)
rp_reply s past e (ask.Logout claims) = logout s past e claims
rp_reply s past e ask.NotHere = NotHere

-- the reply, if no table were full
abbrev pub rp_told : PartySetup → RpPast → Entry RpAsk → RpAsk → RpReply
rp_told s past e asked = unless_dead (rp_reply s past e asked) (dead_for (party_of s).types past e.at asked)

-- the relying party's answer; a value that no request produces gets `NotHere`
unfoldable pub rp_answer : PartySetup → RpPast → Entry RpAsk → RpReply
rp_answer s past e = if is_prepared e.ask then unless_full (party_of s).types past e (rp_told s past e e.ask) else NotHere
