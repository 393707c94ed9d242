-- A logout that comes before its login: no session begins with a `sid` that an accepted logout token named, while it is
-- remembered (our choice).
use Rattle.std.specs.Prelude.{ℕ, Option, Some, None, option_and_then}
use Rattle.sso_base.specs.Words.{Text}
use Rattle.oidc_words.specs.declared.response_types.Types.{Types}
use Rattle.rp_login.specs.declared.rows.PendingRow.{PendingRow}
use Rattle.rp_login.specs.declared.rows.DeadRow.{DeadRow}
use Rattle.rp_login.specs.declared.rows.Stage.TheVariants as stage
use Rattle.rp_exchange.specs.declared.ask.RpAsk.{RpAsk}
use Rattle.rp_exchange.specs.declared.ask.RpAsk.TheVariants.{Info}
use Rattle.rp_exchange.specs.declared.no.RpNo.TheVariants.{EndedSid}
use Rattle.rp_exchange.specs.declared.reply.RpReply.{RpReply}
use Rattle.rp_exchange.specs.declared.reply.RpReply.TheVariants.{Entered, Refused}
use Rattle.rp_answer.specs.Past.{RpPast}
use Rattle.rp_answer.specs.Asked.{claims_judged, sid_in}
use Rattle.rp_answer.specs.Pendings.{live_pending}
use Rattle.rp_answer.specs.Deads.{live_dead}

abbrev pub sid_waiting : Option PendingRow → Option Text
sid_waiting pending = option_and_then (λ (row : PendingRow). row.sid) pending

-- the `sid` of the last ID Token of the session that would begin; if a UserInfo response comes, that token was verified before
abbrev pub sid_judged : Types → RpPast → ℕ → RpAsk → Option Text
sid_judged types past at (Info w came) = sid_waiting (live_pending types past at w stage.Info)
sid_judged types past at asked = sid_in (claims_judged types asked)

-- the record of that `sid`, if it is remembered
abbrev pub dead_for : Types → RpPast → ℕ → RpAsk → Option DeadRow
dead_for types past at asked = option_and_then (live_dead past at) (sid_judged types past at asked)

abbrev pub enter_unless : RpReply → Option DeadRow → RpReply
enter_unless reply None = reply
enter_unless reply (Some dead) = Refused (EndedSid dead.place)

-- only a reply that begins a session is replaced
abbrev pub unless_dead : RpReply → Option DeadRow → RpReply
unless_dead (Entered w sub) dead = enter_unless (Entered w sub) dead
unless_dead reply dead = reply
