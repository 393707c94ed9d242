use Rattle.std.proofs.Common.{◌≡◌, ◌≤◌, ◌+◌, ◌*◌, ◌^◌, ◌||◌, ◌++◌, length, map, vec_capacity}
use Rattle.std.specs.List.{All, sum_by, list_any}
use Rattle.serving.specs.Seating.{is_left}
use Rattle.serving.proofs.seats.rise.Given as goal

abbrev pub invariant-loop : goal.invariant-loop
invariant-loop g l = record {
  desks : map (λ seat. seat.desk) l.initial.seats.items ≡ l.desks.items ++ map (λ seat. seat.desk) l.seats.items;
  passes : map (λ seat. seat.pass) l.initial.seats.items ≡ l.passes.items ++ map (λ seat. seat.pass) l.seats.items;
  served : sum_by (λ seat. seat.worked.served) l.initial.seats.items ≡ l.count.served + sum_by (λ seat. seat.worked.served) l.seats.items;
  fault : list_any is_left l.initial.seats.items ≡ (l.count.fault || list_any is_left l.seats.items);
  few : l.count.served ≤ 2 ^ 56 * l.counter;
  all : All (λ seat. seat.worked.served ≤ 2 ^ 56) l.seats.items;
  counted : l.counter + length l.seats.items ≡ length l.initial.seats.items;
  desks_count : length l.desks.items ≡ l.counter;
  passes_count : length l.passes.items ≡ l.counter;
  desks_room : vec_capacity l.desks ≡ vec_capacity l.initial.desks;
  passes_room : vec_capacity l.passes ≡ vec_capacity l.initial.passes;
}
