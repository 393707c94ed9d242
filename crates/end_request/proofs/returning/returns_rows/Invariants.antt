use Rattle.std.proofs.Common.{◌≡◌, ◌++◌, map, drop}
use Rattle.toml.specs.View.{view}
use Rattle.configuration_rows.specs.Refusals.{each_from, each}
use Rattle.end_request.specs.Returning.{returns_row}
use Rattle.end_request.proofs.returning.returns_rows.Given as goal

-- the errors of the rows so far, and of those to come
abbrev pub invariant-loop-place : goal.invariant-loop-place
invariant-loop-place l = l.refusals ++ each_from returns_row l.place (map view (drop l.place l.rows)) ≡ l.fn.refusals ++ each returns_row (map view l.rows)
