use Rattle.std.proofs.Common.{◌≤◌, length, take, sym, ◌∙◌, ap, arith}
use Rattle.held_rows.specs.Index.{row_at, stored_rows}
use Rattle.held_rows.proofs.Ends.{none_pass}
use Rattle.held_rows.proofs.Hits.{hit, before_start, other_at, all_counted, few_hits}
use Rattle.held_rows.proofs.stored.Stored.count.Goals as goal

-- those before the start have other bytes
pub loop-place-init : goal.loop-place-init
loop-place-init g c =
    sym (ap length (none_pass (hit (g.T.Test.passes c.args.test.now) (row_at c.args.self.now.slots)) (take c.start-first.result c.index-index.result.now.items)
    (before_start (g.R.Row.key (g.T.Test.by c.args.test.now)) (row_at c.args.self.now.slots) c.args.self.now.by_issue.items c.index-index.result.now.items (g.T.Test.key c.args.test.now) c.requires.issued
    (rw c.by-by.ensures at c.index-index.ensures) (g.T.Test.passes c.args.test.now) (g.met.T.Test.are_found c.args.test.now) c.start-first.result (rw (c.by-by.ensures, c.key-key.ensures) at c.start-first.ensures) c.start-first.result (omega arith))))

-- the bytes end here
pub returns-then-not-is_at : goal.returns-then-not-is_at
returns-then-not-is_at g c =
    c.loop-place.invariant
    ∙ all_counted (g.R.Row.key (g.T.Test.by c.args.test.now)) (row_at c.args.self.now.slots) c.args.self.now.by_issue.items c.index-index.result.now.items (g.T.Test.key c.args.test.now) c.requires.issued
    (rw c.by-by.ensures at c.index-index.ensures) (g.T.Test.passes c.args.test.now) (g.met.T.Test.are_found c.args.test.now) c.start-first.result (rw (c.by-by.ensures, c.key-key.ensures) at c.start-first.ensures) c.loop-place.place c.loop-place.auto.place
    (other_at (g.R.Row.key (g.T.Test.by c.args.test.now)) (row_at c.args.self.now.slots) c.args.self.now.by_issue.items c.index-index.result.now.items (g.T.Test.key c.args.test.now) c.requires.issued
    (rw c.by-by.ensures at c.index-index.ensures) c.loop-place.place c.index-slot.result.now c.is_at.result c.index-slot.ensures (rw (c.by-by.ensures, c.key-key.ensures) at c.is_at.ensures.no) c.if-not-is_at.true)

-- no more pass than rows are held
pub overflow_add-count : goal.overflow_add-count
overflow_add-count g c =
    let few : length (stored_rows c.args.self.now) ≤ 65536 = c.requires.held.few in
    let hits = few_hits (g.R.Row.key (g.T.Test.by c.args.test.now)) (row_at c.args.self.now.slots) c.args.self.now.by_issue.items c.index-index.result.now.items (g.T.Test.key c.args.test.now) c.requires.issued
    (rw c.by-by.ensures at c.index-index.ensures) (g.T.Test.passes c.args.test.now) (g.met.T.Test.are_found c.args.test.now) c.loop-place.place in
    let counted = c.loop-place.invariant in
    omega (arith, few, hits, counted)

-- the index ends
pub returns : goal.returns
returns g c =
    c.loop-place.invariant
    ∙ all_counted (g.R.Row.key (g.T.Test.by c.args.test.now)) (row_at c.args.self.now.slots) c.args.self.now.by_issue.items c.index-index.result.now.items (g.T.Test.key c.args.test.now) c.requires.issued
    (rw c.by-by.ensures at c.index-index.ensures) (g.T.Test.passes c.args.test.now) (g.met.T.Test.are_found c.args.test.now) c.start-first.result (rw (c.by-by.ensures, c.key-key.ensures) at c.start-first.ensures) c.loop-place.place c.loop-place.auto.place
    (λ lt d is. (let past = c.loop-place-test.false in absurd (omega (arith, lt, past))))
