use Rattle.std.proofs.Common.{◌≡◌, ◌+◌, ◌++◌, length, vec_capacity}
use Rattle.serving.specs.Seating.{seated}
use Rattle.serving.proofs.seats.sit.Given as goal

abbrev pub invariant-loop : goal.invariant-loop
invariant-loop g l = record {
  dealt : seated l.initial.desks.items l.initial.passes.items ≡ l.seats.items ++ seated l.desks.items l.passes.items;
  count : length l.seats.items ≡ l.counter;
  desks : l.counter + length l.desks.items ≡ length l.initial.desks.items;
  passes : l.counter + length l.passes.items ≡ length l.initial.passes.items;
  seats_room : vec_capacity l.seats ≡ vec_capacity l.initial.seats;
  desks_room : vec_capacity l.desks ≡ vec_capacity l.initial.desks;
  passes_room : vec_capacity l.passes ≡ vec_capacity l.initial.passes;
}
