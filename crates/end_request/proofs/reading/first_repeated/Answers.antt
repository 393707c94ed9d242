use Rattle.std.proofs.Common.{◌∙◌, sym, get_or, []}
use Rattle.request_params.specs.Form.{Pair}
use Rattle.end_request.proofs.Loops.{repeat_step, repeat_stop, pair_at}
use Rattle.end_request.proofs.reading.first_repeated.Goals as goal

none : Pair
none = ([], [])

pub returns-then-stands_before : goal.returns-then-stands_before
returns-then-stands_before c =
    let d = c.index-pairs-place.result in
    repeat_stop c.args.pairs.now c.loop-place.place (get_or c.args.pairs.now c.loop-place.place d) (pair_at c.args.pairs.now c.loop-place.place d c.loop-place-test.true) _
    (sym c.stands_before.ensures ∙ c.if-stands_before.true) c.loop-place.invariant

pub loop-place-preserved : goal.loop-place-preserved
loop-place-preserved c =
    repeat_step c.args.pairs.now c.loop-place.place (get_or c.args.pairs.now c.loop-place.place none) (pair_at c.args.pairs.now c.loop-place.place none c.loop-place-test.true) _
    (sym c.stands_before.ensures ∙ c.if-stands_before.false) c.loop-place.invariant
