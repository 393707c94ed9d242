-- A reply other than NotHere and Full is the reply that there would be with room. Only here the answer is opened.
use Rattle.std.proofs.Common.{◌≡◌, Bool, true, false, ◌||◌, cond, refl, ◌∙◌, ap, subst}
use Rattle.sso_base.specs.declared.history.Entry.{Entry}
use Rattle.client_registry.specs.Configuration.{Configuration}
use Rattle.op_exchange.specs.declared.ask.OpAsk.{OpAsk}
use Rattle.op_exchange.specs.declared.reply.OpReply.{OpReply}
use Rattle.op_exchange.specs.declared.reply.OpReply.TheVariants.{NotHere, Full}
use Rattle.op_answer.specs.Past.{OpPast}
use Rattle.op_exchange.specs.Asks.{is_prepared}
use Rattle.op_exchange.specs.Replied.{code_in, access_in}
use Rattle.op_answer.specs.Room.{lacks_turn, lacks_session, lacks_code, lacks_access, lacks_room}
use Rattle.op_answer.specs.Answering.{op_reply, op_answer}
use Rattle.op_answer.specs.Causes.{is_own, Stood}

record Passed (prepared full : Bool) (reply told : OpReply) : Type 0 where
  gives : prepared ≡ true
  has_room : full ≡ false
  same : reply ≡ told

passed : (prepared full : Bool) (reply told : OpReply) → is_own told ≡ true → cond prepared (cond full Full reply) NotHere ≡ told → Passed prepared full reply told
passed false full reply told own h = cc
passed true true reply told own h = cc
passed true false reply told own h = record { gives = refl; has_room = refl; same = h }

pub own_replies_stand : (c : Configuration) (past : OpPast) (e : Entry OpAsk) (reply : OpReply) → is_own reply ≡ true → op_answer c past e ≡ reply → Stood c past e reply
unfolding op_answer
own_replies_stand c past e reply own h =
    let first : OpReply = op_reply c past e e.ask in
    let told = passed (is_prepared c e.ask) (lacks_room past e first) first reply own h in
    let L : OpReply → Type 0 = λ r. lacks_room past e r ≡ false in
    record { prepared = told.gives; room = subst L told.same told.has_room; reply_is = told.same }

-- and what stands is the answer
pub standing_is_the_answer : (c : Configuration) (past : OpPast) (e : Entry OpAsk) (reply : OpReply) → Stood c past e reply → op_answer c past e ≡ reply
unfolding op_answer
standing_is_the_answer c past e reply stood =
    let first : OpReply = op_reply c past e e.ask in
    let P : Bool → OpReply = λ b. cond b (cond (lacks_room past e first) Full first) NotHere in
    let L : OpReply → OpReply = λ r. cond (lacks_room past e r) Full r in
    let F : Bool → OpReply = λ b. cond b Full reply in
    ap P stood.prepared ∙ (ap L stood.reply_is ∙ ap F stood.room)

-- so does a reply that makes no row, to an ask that is always prepared
pub stands_without_rows : (c : Configuration) (past : OpPast) (e : Entry OpAsk) (asked : OpAsk) (reply : OpReply) → e.ask ≡ asked → is_prepared c asked ≡ true
    → (lacks_turn past e.at asked reply || lacks_session past e.at asked reply || lacks_code past e.at (code_in reply) || lacks_access past e.at (access_in reply)) ≡ false
    → op_reply c past e asked ≡ reply → Stood c past e reply
stands_without_rows c past e asked reply is gives room told =
    let P : OpAsk → Bool = λ a. is_prepared c a in
    let L : OpAsk → Bool = λ a. lacks_turn past e.at a reply || lacks_session past e.at a reply || lacks_code past e.at (code_in reply) || lacks_access past e.at (access_in reply) in
    let R : OpAsk → OpReply = λ a. op_reply c past e a in
    record { prepared = ap P is ∙ gives; room = ap L is ∙ room; reply_is = ap R is ∙ told }
