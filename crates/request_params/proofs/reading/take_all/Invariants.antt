use Rattle.std.proofs.Common.{◌≡◌, map}
use Rattle.form_urlencoded.specs.Parse.{owned_pairs_left}
use Rattle.request_params.specs.Form.{pair_of, form_pairs}
use Rattle.request_params.specs.OnePair.{with_pairs}
use Rattle.request_params.proofs.reading.take_all.Given as goal

-- what the pairs to come give is what all give
abbrev pub invariant-loop-pair : goal.invariant-loop-pair
invariant-loop-pair l = with_pairs l.params (map pair_of (owned_pairs_left l.pair-iterator)) ≡ with_pairs l.fn.params (form_pairs l.form)
