-- Histories of the core, and the pairs of the inner core in them.
use Rattle.std.specs.Prelude.{ℕ, ◌+◌, List, length, filter_map, Option, Some, None}
use Rattle.sso_base.specs.declared.history.Entry.{Entry}
use Rattle.sso_base.specs.declared.history.Pair.{Pair}
use Rattle.sso_base.specs.declared.message.Message.{Message}
use Rattle.op_exchange.specs.declared.ask.OpAsk.{OpAsk}
use Rattle.op_exchange.specs.declared.reply.OpReply.{OpReply}
use Rattle.core_stack.specs.declared.kept.Kept.{Kept}
use Rattle.core_stack.specs.Kept.{merged}
use Rattle.pkce_answer.specs.declared.asks.Verifier.{Verifier}
use Rattle.pkce_answer.specs.declared.asks.Verifier.TheVariants as verifier
use Rattle.pkce_answer.specs.declared.asks.PkceAsk.{PkceAsk}
use Rattle.pkce_answer.specs.declared.asks.PkceParts.{PkceParts}
use Rattle.pkce_answer.specs.declared.asks.PkceReply.{PkceReply}
use Rattle.pkce_answer.specs.declared.asks.PkceReply.TheVariants.{Through, Own}

abbrev pub Outer : Type 0 → Type 0 → Type 0
Outer A R = Pair (PkceAsk A) (PkceReply R)

-- ---- the pair of the inner core, if the entry was passed on

abbrev pub pair_inside : {A R : Type 0} → Entry (PkceAsk A) → R → Pair A R
pair_inside e reply = record { entry = record { at = e.at; fresh = e.fresh; ask = e.ask.inner }; reply = reply }

abbrev pub passed_by : {A R : Type 0} → Entry (PkceAsk A) → PkceReply R → Option (Pair A R)
passed_by e (Through reply) = Some (pair_inside e reply)
passed_by e (Own reply) = None

abbrev pub passed : {A R : Type 0} → Outer A R → Option (Pair A R)
passed p = passed_by p.entry p.reply

abbrev pub inner_history : {A R : Type 0} → List (Outer A R) → List (Pair A R)
inner_history h = filter_map passed h

-- ---- the pair of what is kept of an entry

abbrev pub ask_around : {A : Type 0} → PkceParts → A → PkceAsk A
ask_around parts inner = record { inner = inner; challenge = parts.challenge; verifier = parts.verifier }

abbrev pub around : {A R : Type 0} → PkceParts → Pair A R → Outer A R
around parts q =
    record { entry = record { at = q.entry.at; fresh = q.entry.fresh; ask = ask_around parts q.entry.ask }; reply = Through q.reply }

abbrev pub own_pair : {A R : Type 0} → Pair (PkceAsk A) OpReply → Outer A R
own_pair own = record { entry = own.entry; reply = Own own.reply }

-- the history, of what is kept and of the inner core's history
abbrev pub merged_history : {A R : Type 0} → List (Kept PkceParts (Pair (PkceAsk A) OpReply)) → List (Pair A R) → List (Outer A R)
merged_history kept inner = merged around own_pair kept inner

-- ---- what requests and replies show of the provider

abbrev pub outer_plain : {A : Type 0} → (A → Option OpAsk) → PkceAsk A → Option OpAsk
outer_plain plain asked = plain asked.inner

-- the provider's reply, also if this core refused by itself
abbrev pub outer_told : {R : Type 0} → (R → Option OpReply) → PkceReply R → Option OpReply
outer_told told (Through reply) = told reply
outer_told told (Own reply) = Some reply

-- the reply that the provider gave
abbrev pub outer_given : {R : Type 0} → (R → Option OpReply) → PkceReply R → Option OpReply
outer_given given (Through reply) = given reply
outer_given given (Own reply) = None

abbrev pub outer_notices : {R : Type 0} → (R → Option (List Message)) → PkceReply R → Option (List Message)
outer_notices notices (Through reply) = notices reply
outer_notices notices (Own reply) = None

-- ---- weights

abbrev pub verifier_bytes : Verifier → ℕ
verifier_bytes (verifier.Given text) = length text
verifier_bytes other = 0

abbrev pub outer_weight : {A : Type 0} → (A → ℕ) → PkceAsk A → ℕ
outer_weight weighs asked = weighs asked.inner + verifier_bytes asked.verifier
