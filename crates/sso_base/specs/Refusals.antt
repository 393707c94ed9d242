-- Errors in order: if several conditions hold, the first one decides.
use Rattle.std.specs.Prelude.{List, [], ◌∷◌, Bool, true, false, Option, Some, None, Result, Ok, Err, IsFalse, ⊤, if◌then◌else◌}

-- the error of the first condition that is true
abbrev pub first_refusal : {E : Type 0} → List (Bool × E) → Result (Unit {0}) E
first_refusal [] = Ok tt
first_refusal (c ∷ cs) = if c.0 then Err c.1 else first_refusal cs

abbrev pub NoneHolds : {E : Type 0} → List (Bool × E) → Type 0
NoneHolds [] = ⊤
NoneHolds (c ∷ cs) = IsFalse c.0 × NoneHolds cs

-- a value is passed on to the function, an error stays
abbrev pub and_then : {A B E : Type 0} → Result A E → (A → Result B E) → Result B E
and_then (Ok a) f = f a
and_then (Err e) f = Err e

-- the same, where the function's errors are of another type, and the error is wrapped in one of them
abbrev pub and_then_as : {A B E F : Type 0} → (E → F) → Result A E → (A → Result B F) → Result B F
and_then_as wrap (Ok a) f = f a
and_then_as wrap (Err e) f = Err (wrap e)

-- the value, or this error if there is none
abbrev pub demand : {A B E : Type 0} → E → Option A → (A → Result B E) → Result B E
demand e None f = Err e
demand e (Some a) f = f a

-- this error if the condition is true
abbrev pub forbid : {B E : Type 0} → E → Bool → Result B E → Result B E
forbid e true r = Err e
forbid e false r = r
