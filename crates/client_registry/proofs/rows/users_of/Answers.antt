use Rattle.std.proofs.Common.{arith}
use Rattle.std.proofs.lemmas.Grind.{common_steps}
use Rattle.client_registry.proofs.HeldClaims.{hold_more}
use Rattle.client_registry.proofs.rows.users_of.Goals as goal

pub loop-row-preserved : goal.loop-row-preserved
loop-row-preserved c = record {
  value = grind (arith, common_steps);
  claims = hold_more c.loop-row.users.items c.push.new.self.items c.in_ok-user_of.field-0 c.in_ok-push.ensures.items c.loop-row.invariant.claims c.in_ok-user_of.ensures.claims;
}
