use Rattle.toml.specs.View.{view}
use Rattle.client_registry.specs.Records.{client_of_row}
use Rattle.client_registry.proofs.RowSteps.{one_more_row}
use Rattle.client_registry.proofs.rows.clients_of.Goals as goal

pub loop-row-preserved : goal.loop-row-preserved
loop-row-preserved c =
    one_more_row (client_of_row c.args.version) view c.args.rows.now c.loop-row.row-index c.row-item.result c.loop-row.clients.items c.push.new.self.items c.in_ok-client_of.field-0
    c.loop-row-test.true c.row-item.is c.loop-row.invariant c.in_ok-push.ensures.items c.in_ok-client_of.ensures
