use Rattle.std.proofs.Common.{◌≡◌, Some, true, slice_get, refl, sym, ◌∙◌}
use Rattle.std.proofs.lemmas.Option.{slice_get_read}
use Rattle.sso_base.specs.Rows.{lives}
use Rattle.held_rows.specs.Index.{row_at}
use Rattle.held_rows.proofs.Ends.{first_lives}
use Rattle.held_rows.proofs.stored.Stored.ended.Goals as goal

-- the first row lives
pub returns-in-Some-clause-none : goal.returns-in-Some-clause-none
returns-in-Some-clause-none g c =
    let s = c.args.self.now in
    let first : slice_get s.by_issue.items 0 ≡ Some c.in_ok-slot.field-0.now = slice_get_read s.by_issue.items s.by_issue.len 0 c.in_ok-slot.field-0.now s.by_issue.ok.0 (c.in_ok-slot.ensures.variant.0 (refl {a = true})) c.in_ok-slot.ensures.lookup in
    let live : lives g.R.Row.LIFE (g.R.Row.begun c.in-Some.row.now) c.args.at ≡ true = rw (c.LIFE.ensures, c.begun.ensures) at (sym c.is_live.ensures ∙ c.if-is_live.true) in
    first_lives g.R.Row.LIFE g.R.Row.begun c.args.at (row_at s.slots) s.by_issue.items c.in_ok-slot.field-0.now c.in-Some.row.now first (sym c.in-Some.ensures) c.requires.held.ordered live
