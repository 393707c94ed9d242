use Rattle.std.proofs.Common.{◌≡◌, ◌^◌, ◌≤◌, ◌<◌, length}
use Rattle.std.specs.List.{All}
use Rattle.program.proofs.desks.desks.Given as goal

abbrev pub invariant-loop : goal.invariant-loop
invariant-loop g l = (length l.desks.items ≡ l.counter) × All (λ desk. (desk.turns ≤ 2 ^ 56) × (desk.door.given < 2 ^ 63)) l.desks.items
