use Rattle.std.proofs.Common.{◌≡◌, length, ap, ◌∙◌, List, ℕ, arith}
use Rattle.held_rows.specs.declared.stored.Issued.{Issued}
use Rattle.held_rows.specs.Index.{rows_at, stored_rows}
use Rattle.held_rows.specs.SlotList.{SlotList}
use Rattle.held_rows.proofs.Parts.{as_many, names_short, groups_short, other_groups_short}
use Rattle.held_rows.proofs.stored.Stored.reserve.Goals as goal

pub overflow_sub-most : goal.overflow_sub-most
overflow_sub-most g c =
    let short = names_short g.R.Row.name g.R.Row.key g.R.Row.begun g.R.Row.IsSound c.args.self.now c.requires in
    let len = c.len.ensures in
    let most = c.len-most.ensures in
    let as_long = c.args.self.now.by_name.ok.0 in
    let as_long-2 = c.args.self.now.by_issue.ok.0 in
    omega (arith, short, len, most, as_long, as_long-2)

pub overflow_sub-most-2 : goal.overflow_sub-most-2
overflow_sub-most-2 g c =
    let short = groups_short g.R.Row.name g.R.Row.key g.R.Row.begun g.R.Row.IsSound c.args.self.now c.requires in
    let len = c.len-2.ensures in
    let most = c.len-most.ensures in
    let as_long = c.args.self.now.by_group.ok.0 in
    let as_long-2 = c.args.self.now.by_issue.ok.0 in
    omega (arith, short, len, most, as_long, as_long-2)

pub overflow_sub-most-3 : goal.overflow_sub-most-3
overflow_sub-most-3 g c =
    let short = other_groups_short g.R.Row.name g.R.Row.key g.R.Row.begun g.R.Row.IsSound c.args.self.now c.requires in
    let len = c.len-3.ensures in
    let most = c.len-most.ensures in
    let as_long = c.args.self.now.by_other.ok.0 in
    let as_long-2 = c.args.self.now.by_issue.ok.0 in
    omega (arith, short, len, most, as_long, as_long-2)

-- there was room
pub returns-then-most-self-clause-room : goal.returns-then-most-self-clause-room
returns-then-most-self-clause-room g c =
    let long = as_many g.R.Row.name g.R.Row.key g.R.Row.begun g.R.Row.IsSound c.args.self.now c.requires in
    let as_long = c.args.self.now.by_issue.ok.0 in
    let most = c.len-most.ensures in
    let room = c.if-most-self.true in
    omega (arith, long, as_long, most, room)

pub returns-clause-room : goal.returns-clause-room
returns-clause-room g c =
    let s = c.args.self.now in
    let long = as_many g.R.Row.name g.R.Row.key g.R.Row.begun g.R.Row.IsSound s c.requires in
    let kept : rows_at c.reserve.new.self c.reserve-2.new.self.items ≡ stored_rows s =
    ap (λ (t : SlotList (Issued g.row.R.Denot)). rows_at t c.reserve-2.new.self.items) c.reserve.ensures.slots ∙ ap (λ (is : List ℕ). rows_at s.slots is) c.reserve-2.ensures.items in
    let rows : length (rows_at c.reserve.new.self c.reserve-2.new.self.items) ≡ length (stored_rows s) = ap length kept in
    let as_long = s.by_issue.ok.0 in
    let most = c.len-most.ensures in
    omega (arith, long, rows, as_long, most)
