-- Which refusals come: those of their causes, and Full where a table is full.
use Rattle.std.proofs.Common.{◌≡◌, true, Ok, Err, refl}
use Rattle.sso_base.specs.declared.history.Entry.{Entry}
use Rattle.auth_answer.specs.declared.no.AnswerNo.TheVariants as answer_no
use Rattle.rp_login.specs.declared.table.RpTable.{RpTable}
use Rattle.rp_exchange.specs.declared.ask.RpAsk.{RpAsk}
use Rattle.rp_exchange.specs.declared.ask.RpAsk.TheVariants as ask
use Rattle.rp_exchange.specs.declared.no.RpNo.{RpNo}
use Rattle.rp_exchange.specs.declared.no.RpNo.TheVariants as no
use Rattle.rp_exchange.specs.declared.reply.RpReply.TheVariants.{Refused}
use Rattle.rp_exchange.specs.Asks.{is_prepared}
use Rattle.rp_answer.specs.Past.{RpPast}
use Rattle.rp_answer.specs.Setup.{PartySetup}
use Rattle.rp_answer.specs.Answering.{rp_answer}
use Rattle.rp_answer.specs.Causes.{Comes, RefusedCause}
use Rattle.rp_answer.specs.FullTables.{FullCause}
use Rattle.rp_answer.proofs.Stood.{own_replies_stand}
use Rattle.rp_answer.proofs.FullTables.{full_has_a_cause, cause_makes_full}
use Rattle.rp_answer.proofs.Refusals.{refused_sid, refusals_have_a_cause}
use Rattle.rp_answer.proofs.Coming.{came, refused_has_place}
use Rattle.rp_answer.proofs.Leading.{is_plain}
use Rattle.rp_answer.proofs.Told.{refusal_leads, sid_leads}

module _ (s : PartySetup) (past : RpPast) (e : Entry RpAsk) where
  -- whatever the ask, the cause of Full is that a table is full
  full_cause : (asked : RpAsk) (found : RpTable) → RefusedCause s past e asked (no.Full found) → FullCause s past e found
  full_cause (ask.Begin presented) found cause = cause
  full_cause (ask.Callback (Err (answer_no.Twice name)) id browser) found cause = cc
  full_cause (ask.Callback (Ok heard) id browser) found cause = cause
  full_cause (ask.Tokens w (Ok came) id) found cause = cause
  full_cause (ask.Tokens w (Err came) id) found cause = cause
  full_cause (ask.Info w (Ok came)) found cause = cause
  full_cause (ask.Info w (Err came)) found cause = cause
  full_cause (ask.Logout (Ok claims)) found cause = cause
  full_cause other found cause = absurd cause

  prepared_by : (why : RpNo) → rp_answer s past e ≡ Refused why → is_prepared e.ask ≡ true
  prepared_by (no.Full found) h = (full_has_a_cause s past e found h).prepared
  prepared_by why h = (own_replies_stand s past e (Refused why) refl h).prepared

  pub refusals_come : (why : RpNo) → rp_answer s past e ≡ Refused why → Comes s past e (Refused why) (RefusedCause s past e e.ask why)
  refusals_come why h = record { prepared = prepared_by why h; placed = refused_has_place s past e why; why = refusals_have_a_cause s past e why h }

  plain_refusals_came : (why : RpNo) → is_plain why ≡ true → Comes s past e (Refused why) (RefusedCause s past e e.ask why) → rp_answer s past e ≡ Refused why
  plain_refusals_came why own h = came s past e (Refused why) (RefusedCause s past e e.ask why) (refusal_leads s past e e.ask why own) h

  pub refusals_came : (why : RpNo) → Comes s past e (Refused why) (RefusedCause s past e e.ask why) → rp_answer s past e ≡ Refused why
  refusals_came (no.Full found) h = cause_makes_full s past e found (full_cause e.ask found h.why)
  refusals_came (no.EndedSid place) h =
      came s past e (Refused (no.EndedSid place)) (RefusedCause s past e e.ask (no.EndedSid place)) (λ cause. sid_leads s past e e.ask place (refused_sid s past e e.ask place cause)) h
  refusals_came why h = plain_refusals_came why refl h
