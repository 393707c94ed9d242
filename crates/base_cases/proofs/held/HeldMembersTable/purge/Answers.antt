use Rattle.std.proofs.Common.{nat_le}
use Rattle.held_rows.proofs.Kept.{all_live}
use Rattle.base_cases.specs.Members.{member_begun}
use Rattle.base_cases.specs.declared.members.Member.{Member}
use Rattle.base_cases.proofs.held.HeldMembersTable.purge.Goals as goal

pub invariant_of-self-clause-in_order : goal.invariant_of-self-clause-in_order
invariant_of-self-clause-in_order c =
    let begins = λ (row : Member). nat_le row.begun c.args.self.now.latest in
    rw c.purge.ensures.rows (all_live begins 600 member_begun c.args.at c.args.self.now.rows.rows c.args.self.now.in_order)
