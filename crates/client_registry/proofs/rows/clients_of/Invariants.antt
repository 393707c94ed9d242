use Rattle.std.proofs.Common.{◌≡◌, take, map}
use Rattle.toml.specs.View.{view}
use Rattle.client_registry.specs.Records.{client_of_row}
use Rattle.client_registry.proofs.rows.clients_of.Given as goal

-- the records of the rows so far
abbrev pub invariant-loop-row : goal.invariant-loop-row
invariant-loop-row l = l.clients.items ≡ map (client_of_row l.version) (map view (take l.row-index l.rows))
