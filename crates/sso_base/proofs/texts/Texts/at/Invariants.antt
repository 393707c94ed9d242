use Rattle.std.proofs.Common.{◌≡◌, drop}
use Rattle.sso_base.proofs.texts.Texts.at.Given as goal

-- what is left
abbrev pub invariant-loop-step : goal.invariant-loop-step
invariant-loop-step l = l.left ≡ drop l._step l.self
