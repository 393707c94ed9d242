use Rattle.std.proofs.Common.{rules}
use Rattle.toml.specs.View.{view}
use Rattle.client_registry.proofs.Registering.{registered_from}
use Rattle.client_registry.proofs.reading.records.Goals as goal

pub registry_of-requires-clause-registry : goal.registry_of-requires-clause-registry
registry_of-requires-clause-registry c =
    registered_from (view c.args.root.now) c.text_or.result.now c.in_ok-salt.salt.items c.in_ok-rows.rows.users.items c.in_ok-rows.rows.clients.items c.in_ok-rows.rows.parties.items
    (search rules) (search rules) c.in_ok-rows.ensures.users c.in_ok-rows.ensures.clients c.in_ok-rows.ensures.parties c.in_ok-rows.ensures.claims c.requires.guiltless (search rules) (search rules)
