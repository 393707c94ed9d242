use Rattle.toml.specs.View.{view}
use Rattle.end_request.specs.Returning.{row_returns}
use Rattle.client_registry.proofs.RowSteps.{one_more_row}
use Rattle.end_request.proofs.returning.returns_of.Goals as goal

pub loop-row-preserved : goal.loop-row-preserved
loop-row-preserved c =
    one_more_row row_returns view c.args.rows.now c.loop-row.row-index c.row-item.result c.loop-row.lists.items c.push.new.self.items c.in_ok-row_returns.field-0
    c.loop-row-test.true c.row-item.is c.loop-row.invariant c.in_ok-push.ensures.items c.in_ok-row_returns.ensures
