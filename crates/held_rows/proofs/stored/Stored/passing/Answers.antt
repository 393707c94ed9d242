use Rattle.std.proofs.Common.{sym, ◌∙◌, arith}
use Rattle.held_rows.specs.Index.{row_at}
use Rattle.held_rows.proofs.Hits.{before_start, other_at, none_passes, some_passes}
use Rattle.held_rows.proofs.stored.Stored.passing.Goals as goal

-- those before the start have other bytes
pub loop-place-init : goal.loop-place-init
loop-place-init g c =
    before_start (g.R.Row.key (g.T.Test.by c.args.test.now)) (row_at c.args.self.now.slots) c.args.self.now.by_issue.items c.index-index.result.now.items (g.T.Test.key c.args.test.now) c.requires.issued
    (rw c.by-by.ensures at c.index-index.ensures) (g.T.Test.passes c.args.test.now) (g.met.T.Test.are_found c.args.test.now) c.start-first.result (rw (c.by-by.ensures, c.key-key.ensures) at c.start-first.ensures) c.start-first.result (omega arith)

-- the bytes end here
pub returns-then-not-is_at-clause-any : goal.returns-then-not-is_at-clause-any
returns-then-not-is_at-clause-any g c =
    sym (none_passes (g.R.Row.key (g.T.Test.by c.args.test.now)) (row_at c.args.self.now.slots) c.args.self.now.by_issue.items c.index-index.result.now.items (g.T.Test.key c.args.test.now) c.requires.issued
    (rw c.by-by.ensures at c.index-index.ensures) (g.T.Test.passes c.args.test.now) (g.met.T.Test.are_found c.args.test.now) c.start-first.result (rw (c.by-by.ensures, c.key-key.ensures) at c.start-first.ensures) c.loop-place.place c.loop-place.auto.place
    (other_at (g.R.Row.key (g.T.Test.by c.args.test.now)) (row_at c.args.self.now.slots) c.args.self.now.by_issue.items c.index-index.result.now.items (g.T.Test.key c.args.test.now) c.requires.issued
    (rw c.by-by.ensures at c.index-index.ensures) c.loop-place.place c.index-slot.result.now c.is_at.result c.index-slot.ensures (rw (c.by-by.ensures, c.key-key.ensures) at c.is_at.ensures.no) c.if-not-is_at.true)
    c.loop-place.invariant)

-- this row passes
pub returns-in-loop-place-clause-any : goal.returns-in-loop-place-clause-any
returns-in-loop-place-clause-any g c =
    sym (some_passes (g.R.Row.key (g.T.Test.by c.args.test.now)) (row_at c.args.self.now.slots) c.args.self.now.by_issue.items c.index-index.result.now.items (g.T.Test.key c.args.test.now) c.requires.issued
    (rw c.by-by.ensures at c.index-index.ensures) (g.T.Test.passes c.args.test.now) c.index-slot.result.now c.in-Some.row.now (sym c.in-Some.ensures) (sym c.passes.ensures ∙ c.if-passes.true))

-- or the index does
pub returns-clause-any : goal.returns-clause-any
returns-clause-any g c =
    sym (none_passes (g.R.Row.key (g.T.Test.by c.args.test.now)) (row_at c.args.self.now.slots) c.args.self.now.by_issue.items c.index-index.result.now.items (g.T.Test.key c.args.test.now) c.requires.issued
    (rw c.by-by.ensures at c.index-index.ensures) (g.T.Test.passes c.args.test.now) (g.met.T.Test.are_found c.args.test.now) c.start-first.result (rw (c.by-by.ensures, c.key-key.ensures) at c.start-first.ensures) c.loop-place.place c.loop-place.auto.place
    (λ lt d is. (let past = c.loop-place-test.false in absurd (omega (arith, lt, past)))) c.loop-place.invariant)
