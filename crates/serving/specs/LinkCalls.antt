-- The calls of a link, one after another, and their results.
use Rattle.std.specs.Prelude.{◌≡◌, ◌≤◌, ℕ, zero, suc, ◌+◌, ◌-◌, ◌^◌, min, List, [], ◌∷◌, map, length, Option, Result, Ok, Err}
use Rattle.sso_base.specs.declared.message.Message.{Message}
use Rattle.server_desk.specs.Doors.{grown}
use Rattle.server_desk.specs.declared.link.LinkNo.{LinkNo}
use Rattle.server_desk.specs.declared.link.LinkNo.TheVariants.{NoMemory, Failed}
use Rattle.server_desk.specs.Links.{Exchange, LinkState, after_exchange}
use Rattle.sso_http.specs.Messages.{message_place, message_bytes}
use Rattle.serving.specs.declared.sending.Sending.{Sending}

-- the message as it was sent, and the answer
pub record LinkCall : Type 0 where
  pub sent : Sending
  pub answer : Result (List ℕ) LinkNo

-- a message as it is sent: the recipient and the bytes
abbrev pub sending_of : Message → Sending
sending_of m = record { to = message_place m; bytes = message_bytes m }

-- the messages of these calls
abbrev pub sent_by : List LinkCall → List Sending
sent_by calls = map (λ (call : LinkCall). call.sent) calls

-- the known exchanges after these calls
abbrev pub after_calls : Option (List Exchange) → List LinkCall → Option (List Exchange)
after_calls before [] = before
after_calls before (call ∷ calls) = after_calls (after_exchange before call.sent.to call.sent.bytes call.answer) calls

-- a 64-bit counter after `steps` more steps
abbrev pub grown_by : ℕ → ℕ → ℕ
grown_by zero count = count
grown_by (suc steps) count = grown_by steps (grown count)

-- 1 if the link failed, otherwise 0
abbrev pub failures_of : Result (List ℕ) LinkNo → ℕ
failures_of (Ok back) = 0
failures_of (Err Failed) = 1
failures_of (Err NoMemory) = 0

-- the number of these calls that failed
abbrev pub failures : List LinkCall → ℕ
failures [] = 0
failures (call ∷ calls) = failures_of call.answer + failures calls

-- These are the calls of the link, and no others: their exchanges are known, each was counted, and the faults rose for each
-- failure.
pub record TookCalls (old new : LinkState) (calls : List LinkCall) : Type 0 where
  pub told : new.exchanges ≡ after_calls old.exchanges calls
  pub counted : new.calls ≡ grown_by (length calls) old.calls
  pub later : old.faults ≤ new.faults
  pub failed : min (old.faults + failures calls) (2 ^ 64 - 1) ≤ new.faults
