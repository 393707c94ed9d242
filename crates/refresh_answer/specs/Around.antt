-- Histories of the core, and the pairs of the inner core in them.
use Rattle.std.specs.Prelude.{ℕ, ◌+◌, ◌<◌, ◌^◌, Bool, false, List, length, filter_map, Option, Some, None, Result, Ok, Err}
use Rattle.std.specs.Str.{IsUtf8}
use Rattle.sso_base.specs.Words.{Word}
use Rattle.sso_base.specs.Weights.{empty_weight}
use Rattle.sso_base.specs.declared.history.Entry.{Entry}
use Rattle.sso_base.specs.declared.history.Pair.{Pair}
use Rattle.sso_base.specs.declared.message.Message.{Message}
use Rattle.token_endpoint.specs.declared.no.GrantNo.{GrantNo}
use Rattle.op_exchange.specs.declared.ask.OpAsk.{OpAsk}
use Rattle.op_exchange.specs.declared.reply.OpReply.{OpReply}
use Rattle.op_exchange.specs.Values.{IsRefusedValue}
use Rattle.op_exchange.specs.Weight.{refused_bytes}
use Rattle.core_stack.specs.declared.kept.Kept.{Kept}
use Rattle.core_stack.specs.Kept.{merged}
use Rattle.refresh_answer.specs.declared.asks.RefreshGrant.{RefreshGrant}
use Rattle.refresh_answer.specs.declared.asks.RefreshAsk.{RefreshAsk}
use Rattle.refresh_answer.specs.declared.asks.RefreshAsk.TheVariants as ask
use Rattle.refresh_answer.specs.declared.asks.RefreshParts.{RefreshParts}
use Rattle.refresh_answer.specs.declared.asks.OwnReply.{OwnReply}
use Rattle.refresh_answer.specs.declared.asks.RefreshReply.{RefreshReply}
use Rattle.refresh_answer.specs.declared.asks.RefreshReply.TheVariants.{Through, First, Own}

abbrev pub Outer : Type 0 → Type 0 → Type 0
Outer A R = Pair (RefreshAsk A) (RefreshReply R)

-- ---- the pair of the inner core, if the entry was passed on

abbrev pub pair_inside : {A R : Type 0} → Entry (RefreshAsk A) → A → R → Pair A R
pair_inside e inner reply = record { entry = record { at = e.at; fresh = e.fresh; ask = inner }; reply = reply }

abbrev pub asked_inside : {A R : Type 0} → Entry (RefreshAsk A) → RefreshAsk A → R → Option (Pair A R)
asked_inside e (ask.Through inner offline) reply = Some (pair_inside e inner reply)
asked_inside e (ask.Refresh grant) reply = None

abbrev pub passed_by : {A R : Type 0} → Entry (RefreshAsk A) → RefreshReply R → Option (Pair A R)
passed_by e (Through reply) = asked_inside e e.ask reply
passed_by e (First reply refresh) = asked_inside e e.ask reply
passed_by e (Own reply) = None

abbrev pub passed : {A R : Type 0} → Outer A R → Option (Pair A R)
passed p = passed_by p.entry p.reply

abbrev pub inner_history : {A R : Type 0} → List (Outer A R) → List (Pair A R)
inner_history h = filter_map passed h

-- ---- the pair of what is kept of an entry

abbrev pub reply_around : {R : Type 0} → R → Option Word → RefreshReply R
reply_around reply None = Through reply
reply_around reply (Some refresh) = First reply refresh

abbrev pub around : {A R : Type 0} → RefreshParts → Pair A R → Outer A R
around parts q = record {
  entry = record { at = q.entry.at; fresh = q.entry.fresh; ask = ask.Through q.entry.ask parts.offline };
  reply = reply_around q.reply parts.first;
}

abbrev pub own_pair : {A R : Type 0} → Pair (RefreshAsk A) OwnReply → Outer A R
own_pair own = record { entry = own.entry; reply = Own own.reply }

-- the history, of what is kept and of the inner core's history
abbrev pub merged_history : {A R : Type 0} → List (Kept RefreshParts (Pair (RefreshAsk A) OwnReply)) → List (Pair A R) → List (Outer A R)
merged_history kept inner = merged around own_pair kept inner

-- ---- what requests and replies show of the provider

abbrev pub outer_plain : {A : Type 0} → (A → Option OpAsk) → RefreshAsk A → Option OpAsk
outer_plain plain (ask.Through inner offline) = plain inner
outer_plain plain (ask.Refresh grant) = None

abbrev pub outer_told : {R : Type 0} → (R → Option OpReply) → RefreshReply R → Option OpReply
outer_told told (Through reply) = told reply
outer_told told (First reply refresh) = told reply
outer_told told (Own reply) = None

-- the reply that the provider gave
abbrev pub outer_given : {R : Type 0} → (R → Option OpReply) → RefreshReply R → Option OpReply
outer_given given reply = outer_told given reply

abbrev pub outer_notices : {R : Type 0} → (R → Option (List Message)) → RefreshReply R → Option (List Message)
outer_notices notices (Through reply) = notices reply
outer_notices notices (First reply refresh) = notices reply
outer_notices notices (Own reply) = None

-- whether an authorization request is for offline access
abbrev pub offline_mark : {A : Type 0} → RefreshAsk A → Bool
offline_mark (ask.Through inner offline) = offline
offline_mark (ask.Refresh grant) = false

-- ---- values and weights

abbrev pub IsRefreshValue : Result RefreshGrant GrantNo → Type 0
IsRefreshValue (Ok grant) = (grant.client < 2 ^ 32) × IsUtf8 grant.token
IsRefreshValue (Err why) = IsRefusedValue why

abbrev pub IsRefreshAsk : {A : Type 0} → (A → Type 0) → RefreshAsk A → Type 0
IsRefreshAsk IsAsk (ask.Through inner offline) = IsAsk inner
IsRefreshAsk IsAsk (ask.Refresh grant) = IsRefreshValue grant

abbrev pub grant_bytes : Result RefreshGrant GrantNo → ℕ
grant_bytes (Ok grant) = length grant.token
grant_bytes (Err why) = refused_bytes why

abbrev pub outer_weight : {A : Type 0} → (A → ℕ) → RefreshAsk A → ℕ
outer_weight weighs (ask.Through inner offline) = weighs inner
outer_weight weighs (ask.Refresh grant) = empty_weight + grant_bytes grant
