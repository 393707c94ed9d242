use Rattle.std.proofs.Common.{◌≤◌, arith}
use Rattle.held_rows.proofs.Kept.{none_after_later}
use Rattle.base_cases.specs.Members.{member_begun}
use Rattle.base_cases.proofs.Latest.{added_latest}
use Rattle.base_cases.proofs.held.HeldMembersTable.add.Goals as goal

pub add-requires-clause-latest : goal.add-requires-clause-latest
add-requires-clause-latest c =
    let order : c.args.self.now.latest ≤ c.args.row.begun = omega (arith, c.if-seconds.false, c.seconds.ensures.value, c.seconds-else-self-ge65536.ensures.value) in
    rw c.in_ok-reserve.ensures.rows (none_after_later member_begun c.args.self.now.latest c.args.row.begun order c.args.self.now.rows.rows c.args.self.now.in_order)

pub invariant_of-self-2-clause-in_order : goal.invariant_of-self-2-clause-in_order
invariant_of-self-2-clause-in_order c =
    let order : c.args.self.now.latest ≤ c.args.row.begun = omega (arith, c.if-seconds.false, c.seconds.ensures.value, c.seconds-else-self-ge65536.ensures.value) in
    added_latest c.args.self.now.latest c.args.row c.args.self.now.rows c.reserve.new.self c.add.new.self order c.in_ok-reserve.ensures.rows c.add.ensures c.args.self.now.in_order
