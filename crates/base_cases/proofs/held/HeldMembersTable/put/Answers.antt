use Rattle.std.proofs.Common.{◌≤◌, arith}
use Rattle.held_rows.proofs.Kept.{none_after_later}
use Rattle.base_cases.specs.Members.{member_begun}
use Rattle.base_cases.proofs.Latest.{put_latest}
use Rattle.base_cases.proofs.held.HeldMembersTable.put.Goals as goal

pub put-requires-clause-latest : goal.put-requires-clause-latest
put-requires-clause-latest c =
    let order : c.args.self.now.latest ≤ c.args.row.begun = omega (arith, c.if-seconds.false, c.seconds.ensures.value, c.seconds-2.ensures.value) in
    none_after_later member_begun c.args.self.now.latest c.args.row.begun order c.args.self.now.rows.rows c.args.self.now.in_order

pub invariant_of-self-clause-in_order : goal.invariant_of-self-clause-in_order
invariant_of-self-clause-in_order c =
    let order : c.args.self.now.latest ≤ c.args.row.begun = omega (arith, c.if-seconds.false, c.seconds.ensures.value, c.seconds-2.ensures.value) in
    put_latest c.args.self.now.latest c.args.row c.args.self.now.rows c.put.new.self order c.put.ensures.rows c.args.self.now.in_order
