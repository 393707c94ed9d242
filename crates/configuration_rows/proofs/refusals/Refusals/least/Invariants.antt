use Rattle.std.proofs.Common.{◌≡◌}
use Rattle.configuration_rows.specs.Refusals.{least, least_before}
use Rattle.configuration_rows.proofs.refusals.Refusals.least.Given as goal

-- the least of those that are left, and of what was found behind them
abbrev pub invariant-loop-refusal : goal.invariant-loop-refusal
invariant-loop-refusal l = least_before l.items.items l.found ≡ least l.fn.self

abbrev pub decreases-loop-refusal : goal.decreases-loop-refusal
decreases-loop-refusal l = goal.left-loop-refusal l
