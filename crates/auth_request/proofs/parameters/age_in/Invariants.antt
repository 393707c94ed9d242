use Rattle.std.proofs.Common.{◌≡◌, ◌<◌, ◌^◌, drop}
use Rattle.auth_request.specs.Parameters.{digits_from}
use Rattle.auth_request.proofs.parameters.age_in.Given as goal

abbrev pub invariant-loop-digit : goal.invariant-loop-digit
invariant-loop-digit l = record { value : digits_from l.age (drop l.digit-index l.text) ≡ digits_from 0 l.text; small : l.age < 10 ^ l.digit-index }
