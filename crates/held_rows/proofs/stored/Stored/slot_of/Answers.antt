use Rattle.std.proofs.Common.{◌≡◌, Some, true, false, get_or, sym, ◌∙◌, ap, arith}
use Rattle.std.proofs.lemmas.List.{get_or_default}
use Rattle.held_rows.specs.declared.row.By.TheVariants.{Name}
use Rattle.held_rows.specs.Index.{row_at, key_in}
use Rattle.held_rows.proofs.Hits.{absent}
use Rattle.held_rows.proofs.Finding.{named_found, named_none}
use Rattle.held_rows.proofs.stored.Stored.slot_of.Goals as goal

-- no slot stands at the start of the name
pub returns-in_err-slot-clause-none : goal.returns-in_err-slot-clause-none
returns-in_err-slot-clause-none g c =
    let s = c.args.self.now in
    let as_long = s.by_name.ok.0 in
    let start = c.start-place.ensures in
    rw c.from_residual.ensures
    (named_none g.R.Row.name g.R.Row.key g.R.Row.begun g.R.Row.IsSound g.met.R.Row.named s c.requires c.args.name.now
    (absent (g.R.Row.key Name) (row_at s.slots) s.by_issue.items s.by_name.items c.args.name.now c.requires.issued c.requires.names c.start-place.result start (λ lt d is. (let clash : false ≡ true = c.in_err-slot.ensures.variant.1 (omega (arith, lt, as_long)) in cc))))

pub returns-then-is_at-clause-some : goal.returns-then-is_at-clause-some
returns-then-is_at-clause-some g c =
    named_found g.R.Row.name g.R.Row.key g.R.Row.begun g.R.Row.IsSound g.met.R.Row.named c.args.self.now c.requires c.in_ok-slot.field-0.now c.args.name.now (c.is_at.ensures.yes c.if-is_at.true)

-- another name stands there
pub returns-else-is_at-clause-none : goal.returns-else-is_at-clause-none
returns-else-is_at-clause-none g c =
    let s = c.args.self.now in
    let index = s.by_name.items in
    let place = c.start-place.result in
    let slot = c.in_ok-slot.field-0.now in
    let start = c.start-place.ensures in
    let there : slot ≡ get_or index place slot = c.in_ok-slot.ensures.lookup in
    named_none g.R.Row.name g.R.Row.key g.R.Row.begun g.R.Row.IsSound g.met.R.Row.named s c.requires c.args.name.now
    (absent (g.R.Row.key Name) (row_at s.slots) s.by_issue.items index c.args.name.now c.requires.issued c.requires.names place start
    (λ lt d is.
    let here : key_in (g.R.Row.key Name) (row_at s.slots) slot ≡ Some c.args.name.now = ap (key_in (g.R.Row.key Name) (row_at s.slots)) (there ∙ get_or_default index place slot d lt) ∙ is in
    let clash : true ≡ false = sym (c.is_at.ensures.no here) ∙ c.if-is_at.false in
    cc))
