use Rattle.std.proofs.Common.{◌≡◌, ◌++◌, map, drop}
use Rattle.toml.specs.View.{view}
use Rattle.configuration_rows.specs.Refusals.{each_from, each}
use Rattle.configuration_rows.specs.Rows as spec
use Rattle.configuration_rows.proofs.rows.user_rows.Given as goal

-- what the rows so far are guilty of, and those to come
abbrev pub invariant-loop-place : goal.invariant-loop-place
invariant-loop-place l = l.refusals ++ each_from spec.user_row l.place (map view (drop l.place l.users)) ≡ l.fn.refusals ++ each spec.user_row (map view l.users)
