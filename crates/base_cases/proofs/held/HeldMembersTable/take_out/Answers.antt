use Rattle.std.proofs.Common.{nat_le}
use Rattle.held_rows.proofs.Kept.{all_filtered}
use Rattle.base_cases.specs.declared.members.Member.{Member}
use Rattle.base_cases.proofs.held.HeldMembersTable.take_out.Goals as goal

pub invariant_of-self-clause-in_order : goal.invariant_of-self-clause-in_order
invariant_of-self-clause-in_order g c =
    let begins = λ (row : Member). nat_le row.begun c.args.self.now.latest in
    rw c.take_out.ensures.rows (all_filtered begins _ c.args.self.now.rows.rows c.args.self.now.in_order)
