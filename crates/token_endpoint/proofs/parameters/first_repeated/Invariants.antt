use Rattle.std.proofs.Common.{◌≡◌, take, drop}
use Rattle.request_params.specs.Reading.{repeated_after, first_repeated}
use Rattle.token_endpoint.proofs.NameSets.{HasNames}
use Rattle.token_endpoint.proofs.parameters.first_repeated.Given as goal

-- the set has the names so far, and what the parameters to come repeat, after those so far, is what all repeat
abbrev pub invariant-loop-parameter : goal.invariant-loop-parameter
invariant-loop-parameter l = record {
  names : HasNames l.names (take l.parameter-index l.parameters);
  told : repeated_after (take l.parameter-index l.parameters) (drop l.parameter-index l.parameters) ≡ first_repeated l.parameters;
}
