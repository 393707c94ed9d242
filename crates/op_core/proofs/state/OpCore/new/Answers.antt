use Rattle.std.proofs.Common.{Bool, ◌∙◌, ap}
use Rattle.sso_base.specs.Journal.{most_of}
use Rattle.op_core.proofs.Beginning.{begins}
use Rattle.op_core.proofs.state.OpCore.new.Goals as goal

pub invariant_of-result : goal.invariant_of-result
invariant_of-result c =
    begins c.args.registry c.new-2.result.pairs c.in_ok-grants.grants c.new-2.result.most c.new-2.ensures.pairs c.in_ok-grants.ensures
    (c.new-2.ensures.most ∙ ap (λ (b : Bool). most_of b) c.lasting-lasts.ensures)
