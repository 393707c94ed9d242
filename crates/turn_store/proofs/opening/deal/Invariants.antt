use Rattle.std.proofs.Common.{◌≡◌, ◌≤◌, ◌+◌, [], map, length}
use Rattle.std.specs.Prelude.{vec_capacity}
use Rattle.std.specs.List.{All}
use Rattle.turn_store.specs.Places.{numbers_from}
use Rattle.turn_store.specs.Views.{idle, new_passes}
use Rattle.turn_store.specs.Passes.{number_of}
use Rattle.turn_store.specs.Seats.{IsDealt}
use Rattle.turn_store.proofs.opening.deal.Given as goal

abbrev pub invariant-loop-left : goal.invariant-loop-left
invariant-loop-left g l = record {
  place : l.seat.table_id ≡ l.shared.table_id;
  seat : l.seat.me ≡ (idle (new_passes l.shared.key.core.value (length l.dealt.items) l.left), []);
  count : length l.dealt.items + l.left ≡ l.count;
  room : l.count ≤ vec_capacity l.dealt;
  numbers : map number_of l.dealt.items ≡ numbers_from 0 (length l.dealt.items);
  dealt : All (IsDealt l.shared.table_id l.shared.key.core.value) l.dealt.items;
}

abbrev pub decreases-loop-left : goal.decreases-loop-left
decreases-loop-left g l = l.left
