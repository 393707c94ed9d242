use Rattle.std.proofs.lemmas.Result.{IfOk-weaker}
use Rattle.jws_compact.proofs.Opening.{verdict_sealed}
use Rattle.jws_compact.proofs.Answering.{only_memory, same_value, at_err}
use Rattle.jws_compact.proofs.unsealing.unseal.Goals as goal

pub returns-clause-opens : goal.returns-clause-opens
returns-clause-opens c = IfOk-weaker c.judged.result _ _ (λ u e. verdict_sealed c.args.key.now c.args.text.now u e) c.judged.ensures.ok

pub returns-clause-accepts : goal.returns-clause-accepts
returns-clause-accepts c = λ h p s. at_err c.judged.result _ _ (λ e x. only_memory c.args.key.now h p c.args.text.now e s x) c.judged.ensures.err

pub returns-clause-value : goal.returns-clause-value
returns-clause-value c = λ h p s. IfOk-weaker c.judged.result _ _ (λ u e. same_value c.args.key.now h p c.args.text.now u s e) c.judged.ensures.ok
