use Rattle.core_stack.proofs.Provided.{provided_of}
use Rattle.pkce_answer.specs.Around.{inner_history}
use Rattle.pkce_answer.proofs.law.legal_histories_are_answered.Goals as goal

pub returns : goal.returns
returns g c = λ x h legal.
    let laws = g.met.P.Provides in
    let s = g.P.Core.setup x in
    record {
      answered = legal.answered;
      inner = provided_of g.P.Provides.plain_ask g.P.Provides.op_reply g.P.Provides.given_reply g.P.Provides.provided (g.P.Provides.provider_registry x) (g.P.Core.is_legal s)
          (λ front rest l. g.met.P.Core.beginnings_are_legal s front rest l) (λ l is. (laws.is_provider x l is).past) (λ l p is. laws.adds_what_it_gives s l p is)
          (λ l p r is told own. laws.only_refusals_are_own s l p r is told own) (inner_history h) legal.inner;
    }
