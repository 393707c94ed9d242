-- Laws about the sign-on machine. Each is a clause of a function of `law.rt`, which says it in words.
use Rattle.std.specs.Prelude.{ℕ}
use Rattle.sso_model.specs.Lists.{Has}
use Rattle.sso_model.specs.Rows.{Live, Machine, Sent, end}
use Rattle.sso_model.specs.Machine.{after}
use Rattle.sso_model.specs.Named.{IsNamed}

-- ---- sessions

abbrev pub OtherSessionsStay : Type 0
OtherSessionsStay =
    (m : Machine) (message : Sent) (count : ℕ) (row : Live) → (IsNamed message row → ⊥) → Has m.live row
    → Has (after m (end message count)).live row
