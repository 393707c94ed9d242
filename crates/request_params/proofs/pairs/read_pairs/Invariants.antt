use Rattle.std.proofs.Common.{◌≡◌, ◌++◌, map}
use Rattle.form_urlencoded.specs.Parse.{owned_pairs_left}
use Rattle.request_params.specs.Form.{pair_of, form_pairs}
use Rattle.request_params.proofs.pairs.read_pairs.Given as goal

-- the pairs so far, and those to come
abbrev pub invariant-loop-pair : goal.invariant-loop-pair
invariant-loop-pair l = l.pairs.items ++ map pair_of (owned_pairs_left l.pair-iterator) ≡ form_pairs l.form
