use Rattle.std.proofs.Common.{rules}
use Rattle.toml.specs.View.{table_view}
use Rattle.configuration_rows.proofs.Addresses.{address_nests}
use Rattle.configuration_rows.proofs.FittingClaims.{set_fits}
use Rattle.configuration_rows.proofs.claims.put_address.Goals as goal

pub returns-in_ok-put_set-in-Some-2-clause-fits : goal.returns-in_ok-put_set-in-Some-2-clause-fits
returns-in_ok-put_set-in-Some-2-clause-fits c =
    set_fits c.args.name.now c.in-Some-2.address c.args.claims.now c.put_set.new.self c.utf8.name (search rules) (address_nests (table_view c.in-Some.table.now) c.in-Some-2.address (search rules)) c.in_ok-put_set-in-Some-2.ensures.ok
