use Rattle.std.proofs.Common.{ap, sym, ◌∙◌}
use Rattle.sso_base.specs.Journal.{most_of}
use Rattle.rp_signout.proofs.Committing.{keeps_first}
use Rattle.rp_signout.proofs.signout_core.SignoutCore.new.Goals as goal

pub invariant_of-result : goal.invariant_of-result
invariant_of-result g c =
    keeps_first g.P.Provides.plain_ask g.P.Provides.IsAsk g.P.Core.weighs g.P.Core.most g.P.Core.is_legal (record { own = c.args.setup; inner = g.P.Core.setup c.args.inner }) (g.P.Core.history c.args.inner)
    c.new-kept.result.kept c.new-kept.result.weight c.new-kept.result.last c.new-kept.result.most c.new-questions.result.rows
    c.requires.empty c.new-kept.ensures.kept c.new-kept.ensures.weight c.new-kept.ensures.last (c.new-kept.ensures.most ∙ ap most_of c.lasting-lasts.ensures ∙ sym c.requires.most) c.new-questions.ensures
    c.know_legal.ensures
