use Rattle.rp_core.specs.Relying.{past_of}
use Rattle.rp_core.proofs.MadeRows.{makes_rows}
use Rattle.rp_core.proofs.state.RpCore.made.Goals as goal

pub returns : goal.returns
returns c =
    makes_rows c.args.self.now.setup (past_of c.args.self.now) c.args.entry.now c.args.reply.now c.login_started.result c.in_ok-pending_found.field-0 c.in_ok-visit_found.field-0 c.in_ok-seen_accepted.field-0 c.in_ok-dead_named.field-0 c.requires.answer
    c.login_started.ensures c.in_ok-pending_found.ensures c.in_ok-visit_found.ensures c.in_ok-seen_accepted.ensures c.in_ok-dead_named.ensures
