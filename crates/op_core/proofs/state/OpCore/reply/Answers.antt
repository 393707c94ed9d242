use Rattle.std.proofs.Common.{◌≡◌, IfOk, subst}
use Rattle.op_exchange.specs.declared.reply.OpReply.{OpReply}
use Rattle.op_core.specs.Providing.{past_of}
use Rattle.op_core.proofs.FoundTurns.{reply_of_found}
use Rattle.op_core.proofs.state.OpCore.reply.Goals as goal

pub returns : goal.returns
returns c =
    let R : OpReply → Type 0 = λ reply. IfOk c.reply_for.result (λ r. r ≡ reply) in
    subst R (reply_of_found c.args.self.now.registry (past_of c.args.self.now) c.args.entry.now c.args.entry.now.ask _ _ c.requires.turn c.requires.session)
    c.reply_for.ensures
