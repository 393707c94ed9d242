-- The outcome of a server that has ended is what it did.
use Rattle.std.proofs.Common.{◌≡◌, Result, Ok, ap, ◌∙◌}
use Rattle.std.proofs.lemmas.Result.{IfOk-weaker}
use Rattle.std.specs.Result.{IfOk}
use Rattle.std.specs.Prelude.{List}
use Rattle.client_registry.specs.Configuration.{Configuration}
use Rattle.rp_answer.specs.Setup.{PartySetup}
use Rattle.signout_answer.specs.declared.asks.EndSetup.{EndSetup}
use Rattle.server_desk.specs.declared.desk.Desk.{Desk}
use Rattle.serving.specs.declared.summary.Summary.{Summary}
use Rattle.serving.specs.Summaries.{Telling}
use Rattle.server_roles.specs.declared.ran.Ran.{Ran}
use Rattle.server_roles.specs.Ends.{RanSo}
use Rattle.sso_serve.specs.Servers.{ServesOp, ServesRp, ServesOpPlus, ServesRpPlus, RanOp, RanRp, RanOpPlus, RanRpPlus}
use Rattle.sso.specs.Answer.{Answer}
use Rattle.sso.specs.Asked.{server_answer}
use Rattle.sso.specs.Outcomes.{ServedBy, ServedOp, ServedRp, ServedOpPlus, ServedRpPlus}

abbrev answer_of : Ran → Answer
answer_of ran = server_answer ran.fault ran.served ran.entries

pub server_told : {X Core A R E : Type 0} (Unchanged : Type 0) (Serves : X → Summary Core A R → Type 0) (x : X) (ran : Ran) (result : Result Answer E)
    → RanSo (Serves x) ran → IfOk result (λ answer. answer ≡ answer_of ran)
    → IfOk result (ServedBy Unchanged Serves (Ok x))
server_told Unchanged Serves x ran result (s, serves, same) told = IfOk-weaker result _ _ (λ answer is. (s, serves, is ∙ ap answer_of same)) told

module _ {D L C W S K : Type 0} (t : Telling D L C W S K) (olds news : List (Desk D L C W)) where
  pub op_told : {E : Type 0} (c : Configuration) (ran : Ran) (result : Result Answer E) → RanOp t olds news c ran
      → IfOk result (λ answer. answer ≡ answer_of ran) → IfOk result (ServedOp t olds news (Ok c))
  op_told c ran result ended told = server_told (news ≡ olds) (ServesOp t olds news) c ran result ended told

  pub rp_told : {E : Type 0} (p : PartySetup) (ran : Ran) (result : Result Answer E) → RanRp t olds news p ran
      → IfOk result (λ answer. answer ≡ answer_of ran) → IfOk result (ServedRp t olds news (Ok p))
  rp_told p ran result ended told = server_told (news ≡ olds) (ServesRp t olds news) p ran result ended told

  pub op_plus_told : {E : Type 0} (e : EndSetup) (ran : Ran) (result : Result Answer E) → RanOpPlus t olds news e ran
      → IfOk result (λ answer. answer ≡ answer_of ran) → IfOk result (ServedOpPlus t olds news (Ok e))
  op_plus_told e ran result ended told = server_told (news ≡ olds) (ServesOpPlus t olds news) e ran result ended told

  pub rp_plus_told : {E : Type 0} (p : PartySetup) (ran : Ran) (result : Result Answer E) → RanRpPlus t olds news p ran
      → IfOk result (λ answer. answer ≡ answer_of ran) → IfOk result (ServedRpPlus t olds news (Ok p))
  rp_plus_told p ran result ended told = server_told (news ≡ olds) (ServesRpPlus t olds news) p ran result ended told
