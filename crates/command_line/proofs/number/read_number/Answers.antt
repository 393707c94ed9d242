use Rattle.std.proofs.Common.{Bool, Some, None, cond, sym, ap, ◌∙◌}
use Rattle.command_line.proofs.Decimals.{parsed, unparsed}
use Rattle.command_line.proofs.number.read_number.Goals as goal

pub returns-in_default : goal.returns-in_default
returns-in_default c = sym (unparsed c.args.low c.args.high c.args.word.now c.ranges.high.fits c.in_default.field-0 c.parse.result c.parse.ensures.value.0 c.in_default.is)

pub returns-then-fits : goal.returns-then-fits
returns-then-fits c =
    ap (λ (b : Bool). cond b (Some c.in-Ok.number) None) (sym c.if-fits.true ∙ c.in_ok-fits.ensures)
    ∙ parsed c.args.low c.args.high c.args.word.now c.ranges.high.fits c.in-Ok.number c.parse.result c.parse.ensures.value.0 c.in-Ok.is

pub returns-else-fits : goal.returns-else-fits
returns-else-fits c =
    ap (λ (b : Bool). cond b (Some c.in-Ok.number) None) (sym c.if-fits.false ∙ c.in_ok-fits.ensures)
    ∙ parsed c.args.low c.args.high c.args.word.now c.ranges.high.fits c.in-Ok.number c.parse.result c.parse.ensures.value.0 c.in-Ok.is
