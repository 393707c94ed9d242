-- A reply comes if and only if a request gives the ask, each row that the reply makes has a place, and it has its cause.
use Rattle.std.proofs.Common.{◌≡◌, Bool, true, false, refl, sym, ◌∙◌}
use Rattle.sso_base.specs.declared.history.Entry.{Entry}
use Rattle.client_registry.specs.Configuration.{Configuration}
use Rattle.op_exchange.specs.declared.ask.OpAsk.{OpAsk}
use Rattle.op_exchange.specs.declared.reply.OpReply.{OpReply}
use Rattle.op_answer.specs.Past.{OpPast}
use Rattle.op_answer.specs.Room.{lacks_room}
use Rattle.op_answer.specs.Answering.{op_reply, op_answer}
use Rattle.op_answer.specs.Causes.{is_own, Stood, Comes}
use Rattle.op_answer.specs.FullTables.{LacksPlace}
use Rattle.op_answer.proofs.Standing.{own_replies_stand, standing_is_the_answer}
use Rattle.op_answer.proofs.FullTables.{lacks_place, place_lacks}

module _ (c : Configuration) (past : OpPast) (e : Entry OpAsk) (told : OpReply) where
  has_places : Stood c past e told → LacksPlace past e told → ⊥
  has_places stood none = (let k : true ≡ false = sym (place_lacks c past e told none) ∙ stood.room in cc)

  room_by : (lacks : Bool) → lacks_room past e told ≡ lacks → op_reply c past e e.ask ≡ told → (LacksPlace past e told → ⊥) → lacks_room past e told ≡ false
  room_by true is told_is placed = absurd (placed (lacks_place c past e told told_is is))
  room_by false is told_is placed = is

  pub comes : is_own told ≡ true → (Cause : Type 0) → (op_answer c past e ≡ told → Cause) → op_answer c past e ≡ told → Comes c past e told Cause
  comes own Cause leads h =
      let stood = own_replies_stand c past e told own h in
      record { prepared = stood.prepared; placed = has_places stood; why = leads h }

  pub came : (Cause : Type 0) → (Cause → op_reply c past e e.ask ≡ told) → Comes c past e told Cause → op_answer c past e ≡ told
  came Cause leads h =
      let told_is = leads h.why in
      standing_is_the_answer c past e told (record { prepared = h.prepared; room = room_by (lacks_room past e told) refl told_is h.placed; reply_is = told_is })
