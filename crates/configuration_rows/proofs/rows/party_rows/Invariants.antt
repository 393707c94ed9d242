use Rattle.std.proofs.Common.{◌≡◌, ◌++◌, map, drop}
use Rattle.toml.specs.View.{view}
use Rattle.configuration_rows.specs.Refusals.{each_from, each}
use Rattle.configuration_rows.specs.Rows as spec
use Rattle.configuration_rows.proofs.rows.party_rows.Given as goal

-- what the rows so far are guilty of, and those to come
abbrev pub invariant-loop-place : goal.invariant-loop-place
invariant-loop-place l = l.refusals ++ each_from (spec.party_row l.version l.host (map view l.clients)) l.place (map view (drop l.place l.parties)) ≡ l.fn.refusals ++ each (spec.party_row l.version l.host (map view l.clients)) (map view l.parties)
