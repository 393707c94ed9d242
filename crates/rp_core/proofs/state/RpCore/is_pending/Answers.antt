use Rattle.std.proofs.Common.{◌∙◌}
use Rattle.sso_base.specs.Rows.{row_of}
use Rattle.rp_login.specs.Rows.{pending_name}
use Rattle.rp_answer.specs.Pendings.{live_pendings}
use Rattle.held_rows.proofs.Found.{found_one}
use Rattle.rp_core.specs.Relying.{past_of}
use Rattle.rp_core.proofs.LiveInBoth.{types_of, pending_named, pendings_few}
use Rattle.rp_core.proofs.state.RpCore.is_pending.Goals as goal

pub returns-clause-row : goal.returns-clause-row
returns-clause-row c =
    c.is_some.ensures
    ∙ found_one c.any_live_pending.result (row_of pending_name c.args.word (live_pendings (types_of c.args.self.now) (past_of c.args.self.now) c.args.at)) (c.any_live_pending.ensures ∙ pending_named (types_of c.args.self.now) (past_of c.args.self.now) c.args.at c.args.word)

pub returns-clause-few : goal.returns-clause-few
returns-clause-few c = pendings_few c.self.inside.setup c.self.inside.journal.pairs c.self.inside.logins c.self.invariant.tables c.args.self.now c.self.view_is c.args.at c.requires c.pending-row.ensures.held
