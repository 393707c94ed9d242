-- A reply comes if and only if a request gives the ask, the row that the reply makes has a place, and it has its cause.
use Rattle.std.proofs.Common.{◌≡◌, true, Option, Some, None, refl, sym, ◌∙◌, inl, inr}
use Rattle.sso_base.specs.declared.history.Entry.{Entry}
use Rattle.rp_login.specs.declared.table.RpTable.{RpTable}
use Rattle.rp_login.specs.declared.table.RpTable.TheVariants as table
use Rattle.rp_exchange.specs.declared.ask.RpAsk.{RpAsk}
use Rattle.rp_exchange.specs.declared.no.RpNo.{RpNo}
use Rattle.rp_exchange.specs.declared.reply.RpReply.{RpReply}
use Rattle.rp_exchange.specs.declared.reply.RpReply.TheVariants.{Exchange, Fetch, Refused}
use Rattle.rp_exchange.specs.Asks.{is_prepared}
use Rattle.rp_answer.specs.Past.{RpPast}
use Rattle.rp_answer.specs.Setup.{PartySetup, party_of}
use Rattle.rp_answer.specs.Room.{table_lacking}
use Rattle.rp_answer.specs.Answering.{rp_told, rp_answer}
use Rattle.rp_answer.specs.Causes.{is_own, Stood, Comes}
use Rattle.rp_answer.specs.FullTables.{LacksPlace}
use Rattle.rp_answer.proofs.Stood.{own_replies_stand, standing_is_the_answer}
use Rattle.rp_answer.proofs.FullTables.{lacks_place, place_lacks}

module _ (s : PartySetup) (past : RpPast) (e : Entry RpAsk) where
  abbrev Lacks : RpReply → RpTable → Type 0
  Lacks told found = LacksPlace (party_of s).types past e told found

  abbrev lacking : RpReply → Option RpTable
  lacking told = table_lacking (party_of s).types past e told

  has_place : (told : RpReply) → Stood s past e told → (found : RpTable) → Lacks told found → ⊥
  has_place told stood found none = (let k : Some found ≡ None = sym (place_lacks s past e told found stood.prepared stood.reply_is none) ∙ stood.room in cc)

  room_by : (told : RpReply) (found : Option RpTable) → lacking told ≡ found → is_prepared e.ask ≡ true → rp_told s past e e.ask ≡ told → ((t : RpTable) → Lacks told t → ⊥) → lacking told ≡ None
  room_by told (Some found) is prepared told_is placed = absurd (placed found (lacks_place s past e told found prepared told_is is))
  room_by told None is prepared told_is placed = is

  pub comes : (told : RpReply) → is_own told ≡ true → (Cause : Type 0) → (rp_answer s past e ≡ told → Cause) → rp_answer s past e ≡ told → Comes s past e told Cause
  comes told own Cause leads h =
      let stood = own_replies_stand s past e told own h in
      record { prepared = stood.prepared; placed = has_place told stood; why = leads h }

  pub came : (told : RpReply) (Cause : Type 0) → (Cause → rp_told s past e e.ask ≡ told) → Comes s past e told Cause → rp_answer s past e ≡ told
  came told Cause leads h =
      let told_is = leads h.why in
      standing_is_the_answer s past e told (record { prepared = h.prepared; room = room_by told (lacking told) refl h.prepared told_is h.placed; reply_is = told_is })

  -- a refusal makes no row
  pub refused_has_place : (why : RpNo) (found : RpTable) → Lacks (Refused why) found → ⊥
  refused_has_place why table.Logins none = let k = none.begins in cc
  refused_has_place why table.Pendings none =
      elim none.sent [ inl sent ↦ (let k : Refused why ≡ Exchange none.word none.message = sent in cc) | inr sent ↦ (let k : Refused why ≡ Fetch none.word none.message = sent in cc) ]
  refused_has_place why table.Sessions none = let k = none.enters in cc
  refused_has_place why table.Seen none = let k = none.accepted in cc
