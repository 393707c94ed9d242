use Rattle.std.proofs.Common.{sym, ◌∙◌}
use Rattle.refresh_book.proofs.Committing.{keeps_first}
use Rattle.refresh_book.proofs.refresh_core.RefreshCore.new.Goals as goal

pub invariant_of-result : goal.invariant_of-result
invariant_of-result g c = (
  c.requires.registry,
  keeps_first g.P.Provides.plain_ask g.P.Provides.given_reply g.P.Provides.provided g.P.Provides.IsAsk g.P.Core.weighs g.P.Core.most g.P.Core.is_legal (record { inner = g.P.Core.setup c.args.inner; registry = c.args.registry }) (g.P.Core.history c.args.inner)
      c.new-kept.result.kept c.new-kept.result.weight c.new-kept.result.last c.new-kept.result.most c.new-turns.result.rows c.new-codes.result.rows c.new-book.result
      c.requires.empty c.new-kept.ensures.kept c.new-kept.ensures.weight c.new-kept.ensures.last (c.new-kept.ensures.most ∙ sym c.requires.most) c.new-turns.ensures c.new-codes.ensures
      c.new-book.ensures.families c.new-book.ensures.tokens c.new-book.ensures.accesses c.new-book.ensures.last c.know_legal.ensures,
)
