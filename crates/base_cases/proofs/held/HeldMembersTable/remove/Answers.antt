use Rattle.std.proofs.Common.{nat_le}
use Rattle.held_rows.proofs.Kept.{all_without}
use Rattle.base_cases.specs.Members.{member_name}
use Rattle.base_cases.specs.declared.members.Member.{Member}
use Rattle.base_cases.proofs.held.HeldMembersTable.remove.Goals as goal

pub invariant_of-self-clause-in_order : goal.invariant_of-self-clause-in_order
invariant_of-self-clause-in_order c =
    let begins = λ (row : Member). nat_le row.begun c.args.self.now.latest in
    rw c.remove.ensures.rows (all_without begins member_name c.as_bytes.result.now c.args.self.now.rows.rows c.args.self.now.in_order)
