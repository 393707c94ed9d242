use Rattle.configuration_rows.proofs.FittingClaims.{flag_fits}
use Rattle.configuration_rows.proofs.claims.put_flag.Goals as goal

pub returns-in_ok-put_flag-in-Some-clause-fits : goal.returns-in_ok-put_flag-in-Some-clause-fits
returns-in_ok-put_flag-in-Some-clause-fits c = flag_fits c.args.name.now c.in-Some.flag c.args.claims.now c.put_flag.new.self c.utf8.name c.in_ok-put_flag-in-Some.ensures.ok
