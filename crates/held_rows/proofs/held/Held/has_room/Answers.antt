use Rattle.std.proofs.Common.{◌∙◌, arith}
use Rattle.std.proofs.lemmas.Bool.{lt-ltb}
use Rattle.held_rows.specs.Index.{row_at, stored_rows}
use Rattle.held_rows.proofs.Parts.{as_many}
use Rattle.held_rows.proofs.Rooms.{judged_few, judged_by_ended}
use Rattle.held_rows.proofs.held.Held.has_room.Goals as goal

pub returns-then-len-lt-MOST_ROWS-clause-room : goal.returns-then-len-lt-MOST_ROWS-clause-room
returns-then-len-lt-MOST_ROWS-clause-room g c =
    let s = c.self.inside.stored in
    let long = as_many g.R.Row.name g.R.Row.key g.R.Row.begun g.R.Row.IsSound s c.self.invariant in
    let len = c.len.ensures in
    let as_long = s.by_issue.ok.0 in
    let few = c.if-len-lt-MOST_ROWS.true in
    let judged = judged_few g.R.Row.LIFE g.R.Row.begun c.args.at (stored_rows s) (omega (arith, long, len, as_long, few)) in
    rw (← c.self.view_is) (lt-ltb c.len.result 65536 few ∙ judged.room)

pub returns-then-len-lt-MOST_ROWS-clause-most : goal.returns-then-len-lt-MOST_ROWS-clause-most
returns-then-len-lt-MOST_ROWS-clause-most g c =
    let s = c.self.inside.stored in
    let long = as_many g.R.Row.name g.R.Row.key g.R.Row.begun g.R.Row.IsSound s c.self.invariant in
    let len = c.len.ensures in
    let as_long = s.by_issue.ok.0 in
    let few = c.if-len-lt-MOST_ROWS.true in
    let judged = judged_few g.R.Row.LIFE g.R.Row.begun c.args.at (stored_rows s) (omega (arith, long, len, as_long, few)) in
    rw (← c.self.view_is) (λ full. lt-ltb c.len.result 65536 few ∙ judged.most full)

pub returns-else-len-lt-MOST_ROWS-clause-room : goal.returns-else-len-lt-MOST_ROWS-clause-room
returns-else-len-lt-MOST_ROWS-clause-room g c =
    let s = c.self.inside.stored in
    let long = as_many g.R.Row.name g.R.Row.key g.R.Row.begun g.R.Row.IsSound s c.self.invariant in
    let len = c.len.ensures in
    let as_long = s.by_issue.ok.0 in
    let many = c.if-len-lt-MOST_ROWS.false in
    let judged = judged_by_ended g.R.Row.LIFE g.R.Row.begun c.args.at (row_at s.slots) s.by_issue.items c.ended.result c.self.invariant.issued c.self.invariant.held.few (omega (arith, long, len, as_long, many)) c.ended.ensures.some c.ended.ensures.none in
    rw (← c.self.view_is, c.is_some.ensures) judged.room

pub returns-else-len-lt-MOST_ROWS-clause-full : goal.returns-else-len-lt-MOST_ROWS-clause-full
returns-else-len-lt-MOST_ROWS-clause-full g c =
    let s = c.self.inside.stored in
    let long = as_many g.R.Row.name g.R.Row.key g.R.Row.begun g.R.Row.IsSound s c.self.invariant in
    let len = c.len.ensures in
    let as_long = s.by_issue.ok.0 in
    let many = c.if-len-lt-MOST_ROWS.false in
    let judged = judged_by_ended g.R.Row.LIFE g.R.Row.begun c.args.at (row_at s.slots) s.by_issue.items c.ended.result c.self.invariant.issued c.self.invariant.held.few (omega (arith, long, len, as_long, many)) c.ended.ensures.some c.ended.ensures.none in
    rw (← c.self.view_is, c.is_some.ensures) judged.full

pub returns-else-len-lt-MOST_ROWS-clause-most : goal.returns-else-len-lt-MOST_ROWS-clause-most
returns-else-len-lt-MOST_ROWS-clause-most g c =
    let s = c.self.inside.stored in
    let long = as_many g.R.Row.name g.R.Row.key g.R.Row.begun g.R.Row.IsSound s c.self.invariant in
    let len = c.len.ensures in
    let as_long = s.by_issue.ok.0 in
    let many = c.if-len-lt-MOST_ROWS.false in
    let judged = judged_by_ended g.R.Row.LIFE g.R.Row.begun c.args.at (row_at s.slots) s.by_issue.items c.ended.result c.self.invariant.issued c.self.invariant.held.few (omega (arith, long, len, as_long, many)) c.ended.ensures.some c.ended.ensures.none in
    rw (← c.self.view_is, c.is_some.ensures) judged.most
