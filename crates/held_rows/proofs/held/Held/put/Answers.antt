use Rattle.std.proofs.Common.{◌≡◌, ◌≤◌, ◌<◌, true, false, is_some, nat_le, length, sym, ◌∙◌, ap, arith}
use Rattle.sso_base.proofs.RowLaws.{row_of-without_same}
use Rattle.held_rows.specs.Held.{Rows}
use Rattle.held_rows.specs.Index.{row_at, stored_rows}
use Rattle.held_rows.proofs.Ends.{removed_is_without, removed_shorter}
use Rattle.held_rows.proofs.Kept.{all_without}
use Rattle.std.proofs.lemmas.List.{length_push}
use Rattle.held_rows.proofs.held.Held.put.Goals as goal

-- the name is held
pub unreachable-requires : goal.unreachable-requires
unreachable-requires g c =
    let there = rw (← c.self.view_is) at c.requires.there in
    let clash : false ≡ true = sym (ap is_some c.in_default.ensures.none) ∙ there in
    cc

pub add-requires-clause-reserved : goal.add-requires-clause-reserved
add-requires-clause-reserved g c =
    let s = c.self.inside.stored in
    let less = removed_shorter (row_at s.slots c.in-Some.slot) (stored_rows s) (stored_rows c.remove.new.self) c.in-Some.ensures.some.0 c.remove.ensures.row in
    let fits = c.self.invariant.fits in
    let capacity = c.remove.ensures.capacity in
    omega (arith, less, fits, capacity)

pub add-requires-clause-few : goal.add-requires-clause-few
add-requires-clause-few g c =
    let s = c.self.inside.stored in
    let less = removed_shorter (row_at s.slots c.in-Some.slot) (stored_rows s) (stored_rows c.remove.new.self) c.in-Some.ensures.some.0 c.remove.ensures.row in
    let few : length (stored_rows s) ≤ 65536 = c.self.invariant.held.few in
    let low : length (stored_rows c.remove.new.self) < 65536 = omega (arith, less, few) in
    low

pub add-requires-clause-unnamed : goal.add-requires-clause-unnamed
add-requires-clause-unnamed g c =
    let s = c.self.inside.stored in
    let left = removed_is_without g.R.Row.name (stored_rows s) (stored_rows c.remove.new.self) c.args.name.now (row_at s.slots c.in-Some.slot) c.self.invariant.held.distinct c.in-Some.ensures.some.1 c.in-Some.ensures.some.0 c.remove.ensures.row in
    rw (c.requires.named, left) (row_of-without_same g.R.Row.name c.args.name.now (stored_rows s))

pub add-requires-clause-latest : goal.add-requires-clause-latest
add-requires-clause-latest g c =
    let s = c.self.inside.stored in
    let left = removed_is_without g.R.Row.name (stored_rows s) (stored_rows c.remove.new.self) c.args.name.now (row_at s.slots c.in-Some.slot) c.self.invariant.held.distinct c.in-Some.ensures.some.1 c.in-Some.ensures.some.0 c.remove.ensures.row in
    let latest = rw (← c.self.view_is) at c.requires.latest in
    rw left (all_without (λ row. nat_le (g.R.Row.begun row) (g.R.Row.begun c.args.row)) g.R.Row.name c.args.name.now (stored_rows s) latest)

pub returns-clause-rows : goal.returns-clause-rows
returns-clause-rows g c =
    let s = c.self.inside.stored in
    let left = removed_is_without g.R.Row.name (stored_rows s) (stored_rows c.remove.new.self) c.args.name.now (row_at s.slots c.in-Some.slot) c.self.invariant.held.distinct c.in-Some.ensures.some.1 c.in-Some.ensures.some.0 c.remove.ensures.row in
    rw (← c.self.view_is, c.add.ensures, c.remove.ensures.capacity, left, c.requires.named)

pub returns-clause-bound : goal.returns-clause-bound
returns-clause-bound g c =
    let s = c.self.inside.stored in
    let less = removed_shorter (row_at s.slots c.in-Some.slot) (stored_rows s) (stored_rows c.remove.new.self) c.in-Some.ensures.some.0 c.remove.ensures.row in
    let more = ap (λ (held : Rows g.row.R.Denot). length held.rows) c.add.ensures ∙ length_push (stored_rows c.remove.new.self) c.args.row in
    rw (← c.self.view_is) (omega (arith, less, more))
