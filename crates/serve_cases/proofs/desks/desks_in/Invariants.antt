use Rattle.std.proofs.Common.{◌^◌, ◌≤◌, ◌<◌}
use Rattle.std.specs.List.{All}
use Rattle.serve_cases.proofs.desks.desks_in.Given as goal

abbrev pub invariant-loop-text : goal.invariant-loop-text
invariant-loop-text l = All (λ desk. (desk.turns ≤ 2 ^ 56) × (desk.door.door.given < 2 ^ 63)) l.desks.items
