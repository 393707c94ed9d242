use Rattle.std.proofs.Common.{◌≡◌, ◌++◌, map, drop}
use Rattle.toml.specs.View.{view}
use Rattle.configuration_rows.specs.Refusals.{each_from, each}
use Rattle.configuration_rows.specs.Rows as spec
use Rattle.configuration_rows.proofs.rows.client_rows.Given as goal

-- what the rows so far are guilty of, and those to come
abbrev pub invariant-loop-place : goal.invariant-loop-place
invariant-loop-place l = l.refusals ++ each_from (spec.client_row l.version (map view l.parties)) l.place (map view (drop l.place l.clients)) ≡ l.fn.refusals ++ each (spec.client_row l.version (map view l.parties)) (map view l.clients)
