use Rattle.std.proofs.Common.{◌≡◌, drop, take}
use Rattle.request_params.specs.Reading.{repeated_after, first_repeated}
use Rattle.end_request.proofs.reading.first_repeated.Given as goal

abbrev pub invariant-loop-place : goal.invariant-loop-place
invariant-loop-place l = repeated_after (take l.place l.pairs) (drop l.place l.pairs) ≡ first_repeated l.pairs
