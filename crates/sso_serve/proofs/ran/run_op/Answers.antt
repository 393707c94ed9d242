use Rattle.std.proofs.Common.{ap, ◌∙◌}
use Rattle.op_core.specs.Providing.{Providing}
use Rattle.sso_serve.proofs.Serving.{op_ran}
use Rattle.sso_serve.proofs.ran.run_op.Goals as goal

pub run_provider-requires-clause-registry : goal.run_provider-requires-clause-registry
run_provider-requires-clause-registry g c κs within = ap (λ (p : Providing). p.registry) c.in_ok-core.ensures ∙ c.in_ok-copy.ensures

pub returns-clause-ran : goal.returns-clause-ran
returns-clause-ran g c =
    op_ran _ _ _ c.args.registry.now _ c.run_provider.result
    (ap (λ (p : Providing). p.registry) c.in_ok-core.ensures ∙ c.in_ok-copy.ensures)
    c.run_provider.ensures.ran
