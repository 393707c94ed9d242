use Rattle.std.proofs.Common.{[], ◌∷◌, ◌++◌}
use Rattle.op_exchange.specs.declared.ask.OpAsk.TheVariants as op_ask
use Rattle.op_exchange.specs.declared.reply.OpReply.TheVariants as op_told
use Rattle.core_stack.proofs.Added.{said_is_added}
use Rattle.core_stack.proofs.law.sign_outs_are_added.Goals as goal

pub returns : goal.returns
returns g c = λ s h p w legal asked.
    let laws = g.met.P.Provides in
    let sent = laws.signs_out s h p w legal asked in (
      sent.0,
      laws.given_is_told p.reply (op_told.SignedOut sent.0) sent.1,
      sent.2,
      said_is_added p.entry.at p.entry.fresh (g.P.Provides.plain_ask p.entry.ask) (g.P.Provides.given_reply p.reply) (g.P.Provides.provided h) (g.P.Provides.provided (h ++ p ∷ [])) (op_ask.SignOut w) (op_told.SignedOut sent.0)
          (laws.adds_what_it_gives s h p legal) asked sent.1,
    )
