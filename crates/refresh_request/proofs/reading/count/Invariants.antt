use Rattle.std.proofs.Common.{◌≡◌, ◌≤◌, ◌+◌, drop}
use Rattle.refresh_request.specs.Reading.{count}
use Rattle.refresh_request.proofs.reading.count.Given as goal

-- those counted so far and those to come are all
abbrev pub invariant-loop-pair : goal.invariant-loop-pair
invariant-loop-pair l = record { all : l.count + count l.name (drop l.pair-index l.pairs) ≡ count l.name l.pairs; few : l.count ≤ l.pair-index }
