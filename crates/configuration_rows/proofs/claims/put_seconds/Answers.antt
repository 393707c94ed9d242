use Rattle.std.proofs.Common.{arith}
use Rattle.configuration_rows.proofs.FittingClaims.{number_fits}
use Rattle.configuration_rows.proofs.claims.put_seconds.Goals as goal

pub returns-in_ok-put_number-in-Some-clause-fits : goal.returns-in_ok-put_number-in-Some-clause-fits
returns-in_ok-put_number-in-Some-clause-fits c =
    number_fits c.args.name.now c.in-Some.number c.args.claims.now c.put_number.new.self c.utf8.name (omega (arith, c.if-number.true)) c.in_ok-put_number-in-Some.ensures.ok
