-- Histories of the core, and the pairs of the inner core in them. The inner core's requests and replies are A and R.
use Rattle.std.specs.Prelude.{ℕ, ◌+◌, List, length, filter_map, Option, Some, None, IfSome}
use Rattle.sso_base.specs.Words.{Word, IsWord}
use Rattle.sso_base.specs.Weights.{empty_weight}
use Rattle.sso_base.specs.declared.history.Pair.{Pair}
use Rattle.sso_base.specs.declared.message.Message.{Message}
use Rattle.op_exchange.specs.declared.ask.OpAsk.{OpAsk}
use Rattle.op_exchange.specs.declared.reply.OpReply.{OpReply}
use Rattle.core_stack.specs.declared.kept.Kept.{Kept}
use Rattle.core_stack.specs.Kept.{merged}
use Rattle.signout_answer.specs.declared.asks.EndAsk.{EndAsk}
use Rattle.signout_answer.specs.declared.asks.EndAsk.TheVariants.{Through, Start, Confirm}
use Rattle.signout_answer.specs.declared.asks.EndReply.{EndReply}
use Rattle.signout_answer.specs.declared.asks.EndReply.TheVariants as reply
use Rattle.signout_answer.specs.declared.parts.OwnReply.{OwnReply}
use Rattle.signout_answer.specs.declared.parts.OwnReply.TheVariants as own
use Rattle.signout_answer.specs.declared.parts.EndParts.{EndParts}
use Rattle.signout_answer.specs.declared.parts.EndParts.TheVariants as parts

abbrev pub Outer : Type 0 → Type 0 → Type 0
Outer A R = Pair (EndAsk A) (EndReply R)

-- requests that hold values of their types
abbrev pub IsEndAsk : {A : Type 0} → (A → Type 0) → EndAsk A → Type 0
IsEndAsk IsAsk (Through inner) = IsAsk inner
IsEndAsk IsAsk (Start form session) = IfSome session IsWord
IsEndAsk IsAsk (Confirm word agree session inner) = IfSome word IsWord × IfSome session IsWord × IsAsk inner

-- ---- the pair of the inner core, if the entry was passed on

abbrev pub pair_inside : {A R : Type 0} → ℕ → List Word → A → R → Pair A R
pair_inside at fresh inner r = record { entry = record { at = at; fresh = fresh; ask = inner }; reply = r }

abbrev pub passed_by : {A R : Type 0} → ℕ → List Word → EndAsk A → EndReply R → Option (Pair A R)
passed_by at fresh (Through inner) (reply.Through r) = Some (pair_inside at fresh inner r)
passed_by at fresh (Confirm word agree session inner) (reply.Gone back r) = Some (pair_inside at fresh inner r)
passed_by at fresh asked told = None

abbrev pub passed : {A R : Type 0} → Outer A R → Option (Pair A R)
passed p = passed_by p.entry.at p.entry.fresh p.entry.ask p.reply

abbrev pub inner_history : {A R : Type 0} → List (Outer A R) → List (Pair A R)
inner_history h = filter_map passed h

-- ---- the pair of what is kept of an entry

abbrev pub ask_around : {A : Type 0} → EndParts → A → EndAsk A
ask_around parts.Through inner = Through inner
ask_around (parts.Gone word agree session back) inner = Confirm word agree session inner

abbrev pub reply_around : {R : Type 0} → EndParts → R → EndReply R
reply_around parts.Through r = reply.Through r
reply_around (parts.Gone word agree session back) r = reply.Gone back r

abbrev pub around : {A R : Type 0} → EndParts → Pair A R → Outer A R
around p q =
    record { entry = record { at = q.entry.at; fresh = q.entry.fresh; ask = ask_around p q.entry.ask }; reply = reply_around p q.reply }

abbrev pub own_reply : {R : Type 0} → OwnReply → EndReply R
own_reply (own.Sure w) = reply.Sure w
own_reply (own.Wrong why) = reply.Wrong why
own_reply own.Kept = reply.Kept
own_reply own.Stale = reply.Stale
own_reply own.Full = reply.Full

abbrev pub own_pair : {A R : Type 0} → Pair (EndAsk A) OwnReply → Outer A R
own_pair o = record { entry = o.entry; reply = own_reply o.reply }

-- the history, of what is kept and of the inner core's history
abbrev pub merged_history : {A R : Type 0} → List (Kept EndParts (Pair (EndAsk A) OwnReply)) → List (Pair A R) → List (Outer A R)
merged_history kept inner = merged around own_pair kept inner

-- ---- what requests and replies show of the provider

-- a request to end a session and the answer to a question are none of the provider
abbrev pub plain_inside : {A : Type 0} → (A → Option OpAsk) → EndAsk A → Option OpAsk
plain_inside plain (Through inner) = plain inner
plain_inside plain asked = None

abbrev pub reply_inside : {R : Type 0} → (R → Option OpReply) → EndReply R → Option OpReply
reply_inside told (reply.Through r) = told r
reply_inside told other = None

-- the messages of a sign-out
abbrev pub notices_inside : {R : Type 0} → (R → Option (List Message)) → EndReply R → Option (List Message)
notices_inside notices (reply.Through r) = notices r
notices_inside notices (reply.Gone back r) = notices r
notices_inside notices other = None

-- ---- weights

abbrev pub form_weight : List ℕ → ℕ
form_weight form = empty_weight + length form

abbrev pub end_weight : {A : Type 0} → (A → ℕ) → EndAsk A → ℕ
end_weight weighs (Through inner) = weighs inner
end_weight weighs (Start form session) = form_weight form
end_weight weighs (Confirm word agree session inner) = weighs inner
