-- The faults of a line. If there are several, the first in their order is returned.
use Rattle.std.specs.Prelude.{◌≡◌, ◌≤◌, ℕ, Bool, List, [], ◌∷◌, ◌++◌, nat_lt, Option, Some, None, if◌then◌else◌}
use Rattle.std.specs.List.{AllByRecursion}
use Rattle.trace_lines.specs.declared.no.Fault.{Fault}
use Rattle.trace_lines.specs.declared.no.Fault.TheVariants.{LineTooLong, Word, Number, Backwards, NoSuchReply, NoSuchParty}
use Rattle.trace_lines.specs.declared.no.TraceNo.{TraceNo}
use Rattle.trace_lines.specs.declared.no.TraceNo.TheVariants as no

-- the order in which faults are returned
abbrev pub order_of : Fault → ℕ
order_of LineTooLong = 1
order_of Word = 2
order_of Number = 3
order_of Backwards = 4
order_of NoSuchReply = 5
order_of NoSuchParty = 6

-- the earlier in the order, of the fault that was found so far and another one
abbrev pub sooner : Option Fault → Fault → Fault
sooner None e = e
sooner (Some f) e = if nat_lt (order_of e) (order_of f) then e else f

-- the earliest in the order, of the fault that was found so far and these
abbrev pub least_of : Option Fault → List Fault → Option Fault
least_of found [] = found
least_of found (e ∷ es) = least_of (Some (sooner found e)) es

-- the first fault in the order
abbrev pub least : List Fault → Option Fault
least es = least_of None es

-- e is one of these, and none of them is earlier in the order
pub record IsLeast (e : Fault) (es : List Fault) : Type 0 where
  pub before : List Fault
  pub after : List Fault
  pub there : es ≡ before ++ e ∷ after
  pub lowest : AllByRecursion (λ f. order_of e ≤ order_of f) es

-- ---- faults of parts

-- the fault of a part, if it has one, before those of the rest
abbrev pub onto : Option Fault → List Fault → List Fault
onto None es = es
onto (Some e) es = e ∷ es

-- a fault, if the condition is true
abbrev pub fault_if : Bool → Fault → Option Fault
fault_if b e = if b then Some e else None

-- a fault, if nothing could be read
abbrev pub fault_at_none : {A : Type 0} → Option A → Fault → Option Fault
fault_at_none None e = Some e
fault_at_none (Some x) e = None

-- ---- faults of a trace

-- the rejection of a trace whose first bad line has this number
abbrev pub refusal_of : ℕ → Fault → TraceNo
refusal_of number LineTooLong = no.LineTooLong number
refusal_of number Word = no.Word number
refusal_of number Number = no.Number number
refusal_of number Backwards = no.Backwards number
refusal_of number NoSuchReply = no.NoSuchReply number
refusal_of number NoSuchParty = no.NoSuchParty number
