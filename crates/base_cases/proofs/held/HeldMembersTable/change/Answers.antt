use Rattle.std.proofs.Common.{refl}
use Rattle.base_cases.proofs.Latest.{changed_latest}
use Rattle.base_cases.proofs.held.HeldMembersTable.change.Goals as goal

pub invariant_of-self-clause-in_order : goal.invariant_of-self-clause-in_order
invariant_of-self-clause-in_order c =
    changed_latest c.as_bytes.result.now (λ row. record row { number = c.args.change.number }) c.args.self.now.latest c.args.self.now.rows c.change.new.self (λ row. refl)
    c.change.ensures.rows c.args.self.now.in_order
