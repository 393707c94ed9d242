-- What the refusals say of the past and of the ask that led to them.
use Rattle.std.proofs.Common.{◌≡◌, ℕ, Option, Some, None, Ok, Err, refl}
use Rattle.sso_base.specs.declared.history.Entry.{Entry}
use Rattle.auth_answer.specs.declared.no.AnswerNo.TheVariants as answer_no
use Rattle.rp_login.specs.declared.rows.DeadRow.{DeadRow}
use Rattle.rp_login.specs.declared.rows.SessionRow.{SessionRow}
use Rattle.rp_login.specs.declared.table.RpTable.{RpTable}
use Rattle.rp_exchange.specs.declared.ask.RpAsk.{RpAsk}
use Rattle.rp_exchange.specs.declared.ask.RpAsk.TheVariants as ask
use Rattle.rp_exchange.specs.declared.no.RpNo.{RpNo}
use Rattle.rp_exchange.specs.declared.no.RpNo.TheVariants as no
use Rattle.rp_exchange.specs.declared.reply.RpReply.{RpReply}
use Rattle.rp_exchange.specs.declared.reply.RpReply.TheVariants.{Refused}
use Rattle.rp_answer.specs.Past.{RpPast}
use Rattle.rp_answer.specs.Setup.{PartySetup, party_of}
use Rattle.rp_answer.specs.Visits.{live_visit}
use Rattle.rp_answer.specs.Replies.{visited}
use Rattle.rp_answer.specs.Alive.{dead_for, unless_dead}
use Rattle.rp_answer.specs.Room.{table_lacking}
use Rattle.rp_answer.specs.Answering.{rp_told, rp_answer}
use Rattle.rp_answer.specs.Causes.{SidEnded, RefusedCause}
use Rattle.rp_answer.specs.FullTables.{FullCause}
use Rattle.rp_answer.proofs.Answers.{own_replies_caused}
use Rattle.rp_answer.proofs.FullTables.{full_lacks, full_has_a_cause}

module _ (s : PartySetup) (past : RpPast) (e : Entry RpAsk) where
  abbrev lacking : RpReply → Option RpTable
  lacking reply = table_lacking (party_of s).types past e reply

  -- who is logged in adds no row
  visit_adds_none : (found : Option SessionRow) (dead : Option DeadRow) → lacking (unless_dead (visited found) dead) ≡ None
  visit_adds_none None dead = refl
  visit_adds_none (Some visit) dead = refl

  -- the asks that add a row to a table
  full_asked : (asked : RpAsk) (table : RpTable) → FullCause s past e table → lacking (rp_told s past e asked) ≡ Some table → RefusedCause s past e asked (no.Full table)
  full_asked (ask.Begin presented) table room h = room
  full_asked ask.Fragment table room h = cc
  full_asked (ask.Callback (Err (answer_no.Twice name)) id browser) table room h = cc
  full_asked (ask.Callback (Err answer_no.NoMemory) id browser) table room h = cc
  full_asked (ask.Callback (Ok heard) id browser) table room h = room
  full_asked (ask.Tokens w (Err why) id) table room h = room
  full_asked (ask.Tokens w (Ok came) id) table room h = room
  full_asked (ask.Info w (Err why)) table room h = room
  full_asked (ask.Info w (Ok sub)) table room h = room
  full_asked (ask.Visit session) table room h =
      let none = visit_adds_none (live_visit (party_of s).types past e.at session) (dead_for (party_of s).types past e.at (ask.Visit session)) in cc
  full_asked (ask.Leave session) table room h = cc
  full_asked (ask.Logout (Err why)) table room h = cc
  full_asked (ask.Logout (Ok claims)) table room h = room
  full_asked ask.NotHere table room h = cc

  -- ---- the asks that may begin a session

  sid_refused : (asked : RpAsk) (place : ℕ) → SidEnded s past e asked place → RefusedCause s past e asked (no.EndedSid place)
  sid_refused (ask.Callback (Ok heard) id browser) place cause = cause
  sid_refused (ask.Tokens w (Err why) id) place cause = cause
  sid_refused (ask.Tokens w (Ok came) id) place cause = cause
  sid_refused (ask.Info w (Err why)) place cause = cause
  sid_refused (ask.Info w (Ok sub)) place cause = cause
  sid_refused other place cause = absurd cause.enters

  pub refused_sid : (asked : RpAsk) (place : ℕ) → RefusedCause s past e asked (no.EndedSid place) → SidEnded s past e asked place
  refused_sid (ask.Callback (Err (answer_no.Twice name)) id browser) place cause = cc
  refused_sid (ask.Callback (Ok heard) id browser) place cause = cause
  refused_sid (ask.Tokens w (Err why) id) place cause = cause
  refused_sid (ask.Tokens w (Ok came) id) place cause = cause
  refused_sid (ask.Info w (Err why)) place cause = cause
  refused_sid (ask.Info w (Ok sub)) place cause = cause
  refused_sid (ask.Logout (Err why)) place cause = absurd cause
  refused_sid (ask.Logout (Ok claims)) place cause = absurd cause
  refused_sid other place cause = absurd cause

  pub refusals_have_a_cause : (why : RpNo) → rp_answer s past e ≡ Refused why → RefusedCause s past e e.ask why
  refusals_have_a_cause (no.Full table) h = full_asked e.ask table (full_has_a_cause s past e table h) (full_lacks s past e table h).1
  refusals_have_a_cause (no.Twice name) h = own_replies_caused s past e (Refused (no.Twice name)) refl h
  refusals_have_a_cause no.NoState h = own_replies_caused s past e (Refused no.NoState) refl h
  refusals_have_a_cause no.StaleLogin h = own_replies_caused s past e (Refused no.StaleLogin) refl h
  refusals_have_a_cause no.WrongBrowser h = own_replies_caused s past e (Refused no.WrongBrowser) refl h
  refusals_have_a_cause (no.Provider code) h = own_replies_caused s past e (Refused (no.Provider code)) refl h
  refusals_have_a_cause (no.Missing part) h = own_replies_caused s past e (Refused (no.Missing part)) refl h
  refusals_have_a_cause (no.Id cause) h = own_replies_caused s past e (Refused (no.Id cause)) refl h
  refusals_have_a_cause no.StalePending h = own_replies_caused s past e (Refused no.StalePending) refl h
  refusals_have_a_cause (no.Tokens cause) h = own_replies_caused s past e (Refused (no.Tokens cause)) refl h
  refusals_have_a_cause (no.Info cause) h = own_replies_caused s past e (Refused (no.Info cause)) refl h
  refusals_have_a_cause no.SubjectDiffers h = own_replies_caused s past e (Refused no.SubjectDiffers) refl h
  refusals_have_a_cause (no.Logout cause) h = own_replies_caused s past e (Refused (no.Logout cause)) refl h
  refusals_have_a_cause (no.Seen place) h = own_replies_caused s past e (Refused (no.Seen place)) refl h
  refusals_have_a_cause (no.EndedSid place) h = sid_refused e.ask place (own_replies_caused s past e (Refused (no.EndedSid place)) refl h)
