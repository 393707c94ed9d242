use Rattle.std.proofs.Common.{ap, ◌∙◌}
use Rattle.std.proofs.lemmas.Result.{IfOk-weaker}
use Rattle.signout_answer.specs.declared.asks.EndSetup.{EndSetup}
use Rattle.sso_serve.proofs.cores.op_plus_core.Goals as goal

pub returns-clause-setup : goal.returns-clause-setup
returns-clause-setup c = IfOk-weaker c.op_around.result _ _ (λ core is. is ∙ c.in_ok-setup.ensures) c.op_around.ensures.setup

pub returns-clause-registry : goal.returns-clause-registry
returns-clause-registry c =
    IfOk-weaker c.op_around.result _ _ (λ core is. is ∙ ap (λ (e : EndSetup). e.registry) c.in_ok-setup.ensures) c.op_around.ensures.registry

pub returns-clause-own : goal.returns-clause-own
returns-clause-own c =
    IfOk-weaker c.op_around.result _ _ (λ core is. is ∙ ap (λ (e : EndSetup). e.registry) c.in_ok-setup.ensures) c.op_around.ensures.own
