use Rattle.std.proofs.Common.{sym, ◌∙◌}
use Rattle.pkce_check.proofs.Committing.{keeps_first}
use Rattle.pkce_check.proofs.pkce_core.PkceCore.new.Goals as goal

pub invariant_of-result : goal.invariant_of-result
invariant_of-result g c =
    keeps_first g.P.Provides.plain_ask g.P.Provides.given_reply g.P.Provides.IsAsk g.P.Core.weighs g.P.Core.most g.P.Core.is_legal (g.P.Core.setup c.args.inner) (g.P.Core.history c.args.inner)
    c.new-kept.result.kept c.new-kept.result.weight c.new-kept.result.last c.new-kept.result.most c.new-turns.result.rows c.new-codes.result.rows
    c.requires.empty c.new-kept.ensures.kept c.new-kept.ensures.weight c.new-kept.ensures.last (c.new-kept.ensures.most ∙ sym c.requires.most) c.new-turns.ensures c.new-codes.ensures c.know_legal.ensures
