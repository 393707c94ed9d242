use Rattle.std.proofs.Common.{◌≡◌, take, map}
use Rattle.toml.specs.View.{view}
use Rattle.end_request.specs.Returning.{row_returns}
use Rattle.end_request.proofs.returning.returns_of.Given as goal

-- the URIs of the rows so far
abbrev pub invariant-loop-row : goal.invariant-loop-row
invariant-loop-row l = l.lists.items ≡ map row_returns (map view (take l.row-index l.rows))
