-- A reply other than NotHere and Full is the reply that there would be with room; Full says which table had none. Only here
-- the answer is opened.
use Rattle.std.proofs.Common.{◌≡◌, Bool, true, false, cond, Option, Some, None, refl, ◌∙◌, ap, subst, ◌⊎◌, inl, inr}
use Rattle.sso_base.specs.declared.history.Entry.{Entry}
use Rattle.rp_login.specs.declared.table.RpTable.{RpTable}
use Rattle.rp_exchange.specs.declared.ask.RpAsk.{RpAsk}
use Rattle.rp_exchange.specs.declared.no.RpNo.TheVariants as no
use Rattle.rp_exchange.specs.declared.reply.RpReply.{RpReply}
use Rattle.rp_exchange.specs.declared.reply.RpReply.TheVariants.{Refused, NotHere}
use Rattle.rp_exchange.specs.Asks.{is_prepared}
use Rattle.rp_answer.specs.Past.{RpPast}
use Rattle.rp_answer.specs.Setup.{PartySetup, party_of}
use Rattle.rp_answer.specs.Room.{table_lacking, unless_lacking}
use Rattle.rp_answer.specs.Answering.{rp_told, rp_answer}
use Rattle.rp_answer.specs.Causes.{is_own, Stood}

record Passed (prepared : Bool) (lacking : Option RpTable) (reply told : RpReply) : Type 0 where
  gives : prepared ≡ true
  has_room : lacking ≡ None
  same : reply ≡ told

passed : (prepared : Bool) (lacking : Option RpTable) (reply told : RpReply) → is_own told ≡ true → cond prepared (unless_lacking reply lacking) NotHere ≡ told
    → Passed prepared lacking reply told
passed false lacking reply told own h = cc
passed true (Some table) reply told own h = cc
passed true None reply told own h = record { gives = refl; has_room = refl; same = h }

pub own_replies_stand : (s : PartySetup) (past : RpPast) (e : Entry RpAsk) (reply : RpReply) → is_own reply ≡ true → rp_answer s past e ≡ reply → Stood s past e reply
unfolding rp_answer
own_replies_stand s past e reply own h =
    let first : RpReply = rp_told s past e e.ask in
    let told = passed (is_prepared e.ask) (table_lacking (party_of s).types past e first) first reply own h in
    let L : RpReply → Type 0 = λ r. table_lacking (party_of s).types past e r ≡ None in
    record { prepared = told.gives; room = subst L told.same told.has_room; reply_is = told.same }

-- and what stands is the answer
pub standing_is_the_answer : (s : PartySetup) (past : RpPast) (e : Entry RpAsk) (reply : RpReply) → Stood s past e reply → rp_answer s past e ≡ reply
unfolding rp_answer
standing_is_the_answer s past e reply stood =
    let first : RpReply = rp_told s past e e.ask in
    let P : Bool → RpReply = λ b. cond b (unless_lacking first (table_lacking (party_of s).types past e first)) NotHere in
    let L : RpReply → RpReply = λ r. unless_lacking r (table_lacking (party_of s).types past e r) in
    let F : Option RpTable → RpReply = λ o. unless_lacking reply o in
    ap P stood.prepared ∙ (ap L stood.reply_is ∙ ap F stood.room)

-- the refusal Full comes of a table without room, or is the reply itself
overfull : (prepared : Bool) (lacking : Option RpTable) (reply : RpReply) (table : RpTable) → cond prepared (unless_lacking reply lacking) NotHere ≡ Refused (no.Full table)
    → (prepared ≡ true) × ((lacking ≡ Some table) ⊎ (reply ≡ Refused (no.Full table)))
overfull false lacking reply table h = cc
overfull true (Some found) reply table h = (refl, inl cc)
overfull true None reply table h = (refl, inr h)

-- where the ask is one that a request gives, as it is then
pub full_or_replied : (s : PartySetup) (past : RpPast) (e : Entry RpAsk) (table : RpTable) → rp_answer s past e ≡ Refused (no.Full table)
    → (is_prepared e.ask ≡ true) ×
    ((table_lacking (party_of s).types past e (rp_told s past e e.ask) ≡ Some table) ⊎ (rp_told s past e e.ask ≡ Refused (no.Full table)))
unfolding rp_answer
full_or_replied s past e table h =
    let first : RpReply = rp_told s past e e.ask in
    overfull (is_prepared e.ask) (table_lacking (party_of s).types past e first) first table h
