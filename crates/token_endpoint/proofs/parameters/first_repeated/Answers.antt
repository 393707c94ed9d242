use Rattle.std.proofs.Common.{[], arith}
use Rattle.std.proofs.lemmas.Grind.{common_steps}
use Rattle.token_endpoint.proofs.NameSets.{one_more}
use Rattle.token_endpoint.proofs.parameters.first_repeated.Goals as goal

pub returns-then-not-branch : goal.returns-then-not-branch
returns-then-not-branch c =
    let has = c.loop-parameter.invariant.names c.as_str.result.now in
    let told = c.loop-parameter.invariant.told in
    grind (arith, common_steps, has, told)

pub loop-parameter-preserved : goal.loop-parameter-preserved
loop-parameter-preserved c =
    let has = c.loop-parameter.invariant.names c.as_str.result.now in
    let told = c.loop-parameter.invariant.told in
    record {
      names = one_more c.args.parameters.now c.loop-parameter.parameter-index ([], []) c.as_str.result.now c.loop-parameter.names c.insert.new.self (omega arith) (grind (arith, common_steps)) c.loop-parameter.invariant.names c.in_ok-insert.ensures.updates;
      told = grind (arith, common_steps, has, told);
    }
