use Rattle.std.proofs.Common.{◌≡◌, map}
use Rattle.form_urlencoded.specs.Parse.{owned_pairs_left}
use Rattle.request_params.specs.Form.{pair_of, form_pairs}
use Rattle.auth_answer.specs.Parts.{with_pairs}
use Rattle.auth_answer.proofs.reading.take_all.Given as goal

-- what the pairs to come give is what all give
abbrev pub invariant-loop-pair : goal.invariant-loop-pair
invariant-loop-pair l = with_pairs l.parts (map pair_of (owned_pairs_left l.pair-iterator)) ≡ with_pairs l.fn.parts (form_pairs l.form)
