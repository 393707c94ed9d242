use Rattle.std.proofs.Common.{ℕ, subst}
use Rattle.client_registry.specs.Configuration.{Configuration}
use Rattle.code_grant.specs.Tables.{Tables}
use Rattle.op_answer.specs.Past.{OpPair, OpPast}
use Rattle.op_tables.specs.Keeping.{IsUpdate}
use Rattle.op_tables.specs.Updating.{MayUpdate}
use Rattle.op_core.proofs.step.take_in.Goals as goal

pub returns-in-Ok-clause-tables : goal.returns-in-Ok-clause-tables
returns-in-Ok-clause-tables c =
    let p : OpPair = record { entry = c.args.entry; reply = c.args.reply } in
    let F : Tables → Type 0 =
    λ t. (d : Configuration) (past : OpPast) (before : ℕ)
    → MayUpdate t p c.args.outcome.made.turn c.args.outcome.made.session c.args.outcome.made.code c.args.outcome.made.token c.args.outcome.used c.args.outcome.client d past before
    → IsUpdate t c.put.new.grants past p in
    subst F c.in-Ok.ensures.tables c.put.ensures.tables
