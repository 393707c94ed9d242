use Rattle.std.proofs.Common.{◌≡◌, map, drop}
use Rattle.toml.specs.View.{view}
use Rattle.configuration_rows.specs.Rows.{client_with}
use Rattle.configuration_rows.proofs.party_rules.client_with.Given as goal

abbrev pub invariant-loop-client : goal.invariant-loop-client
invariant-loop-client l = client_with l.id (map view (drop l.client-index l.clients)) ≡ client_with l.id (map view l.clients)
