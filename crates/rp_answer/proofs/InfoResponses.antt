-- What the replies to UserInfo responses say: each test of the response is seen here once.
use Rattle.std.proofs.Common.{◌≡◌, Bool, true, false, cond, Option, Some, None, Result, Ok, Err, refl}
use Rattle.sso_base.specs.Words.{Word, Text, fresh_word}
use Rattle.sso_base.specs.Texts.{is_other}
use Rattle.sso_base.specs.declared.history.Entry.{Entry}
use Rattle.userinfo.specs.declared.no.InfoNo.{InfoNo}
use Rattle.rp_login.specs.declared.rows.PendingRow.{PendingRow}
use Rattle.rp_login.specs.declared.rows.Stage.TheVariants as stage
use Rattle.rp_exchange.specs.declared.ask.RpAsk.{RpAsk}
use Rattle.rp_exchange.specs.declared.ask.RpAsk.TheVariants as ask
use Rattle.rp_exchange.specs.declared.no.RpNo.TheVariants as no
use Rattle.rp_exchange.specs.declared.reply.RpReply.TheVariants.{Entered, Refused}
use Rattle.rp_answer.specs.Past.{RpPast}
use Rattle.rp_answer.specs.Setup.{PartySetup, party_of}
use Rattle.rp_answer.specs.Pendings.{live_pending}
use Rattle.rp_answer.specs.Replies.{info}
use Rattle.rp_answer.proofs.Caused.{Caused}

module _ (s : PartySetup) (past : RpPast) (e : Entry RpAsk) (w : Word) where
  subject_by : (pending : PendingRow) → live_pending (party_of s).types past e.at w stage.Info ≡ Some pending → (sub : Text) (other : Bool) → is_other sub pending.sub ≡ other
      → Caused s past e (ask.Info w (Ok sub)) (cond other (Refused no.SubjectDiffers) (Entered (fresh_word e.fresh 1) sub))
  subject_by pending live sub false same = record { exchange = pending; live = live; same_subject = same; drawn = refl; sub_is = refl }
  subject_by pending live sub true other = record { exchange = pending; live = live; other = other }

  pub infos_caused : (found : Option PendingRow) → live_pending (party_of s).types past e.at w stage.Info ≡ found → (came : Result Text InfoNo)
      → Caused s past e (ask.Info w came) (info e found came)
  infos_caused None stale came = stale
  infos_caused (Some pending) live (Err why) = record { exchange = pending; live = live; failed = refl }
  infos_caused (Some pending) live (Ok sub) = subject_by pending live sub (is_other sub pending.sub) refl
