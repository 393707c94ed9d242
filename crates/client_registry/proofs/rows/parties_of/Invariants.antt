use Rattle.std.proofs.Common.{◌≡◌, take, map}
use Rattle.toml.specs.View.{view}
use Rattle.client_registry.specs.Records.{party_of}
use Rattle.client_registry.proofs.rows.parties_of.Given as goal

-- the records of the rows so far
abbrev pub invariant-loop-row : goal.invariant-loop-row
invariant-loop-row l = l.parties.items ≡ map (party_of l.version l.clients) (map view (take l.row-index l.rows))
