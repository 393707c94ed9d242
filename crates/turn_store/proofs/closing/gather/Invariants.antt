use Rattle.std.proofs.Common.{◌≡◌, ◌≤◌, ◌+◌, [], ◌++◌, length, false}
use Rattle.std.specs.Prelude.{vec_len, vec_capacity}
use Rattle.std.specs.List.{AllByRecursion}
use Rattle.std.specs.Vec.Iter.{into_iter_items, into_iter_len}
use Rattle.turn_store.specs.Seats.{IsIdleAt, views_in, lists_of}
use Rattle.turn_store.proofs.closing.gather.Given as goal

abbrev pub invariant-loop-pass : goal.invariant-loop-pass
invariant-loop-pass g l = record {
  can : (goal.iterator-loop-pass g).can_next l.pass-iterator;
  finite : (goal.iterator-loop-pass g).is_finite l.pass-iterator;
  len : into_iter_len l.pass-iterator ≡ length (into_iter_items l.pass-iterator);
  passes : AllByRecursion (IsIdleAt l.shared.table_id) (into_iter_items l.pass-iterator);
  place : l.seat.table_id ≡ l.initial.seat.table_id;
  idle : (l.seat.me.1 ≡ []) × (l.seat.me.0.holds ≡ false);
  joined : l.seat.me.0.passes ++ views_in (into_iter_items l.pass-iterator) ≡ l.initial.seat.me.0.passes ++ views_in (into_iter_items l.initial.pass-iterator);
  lists : l.lists.items ++ lists_of (into_iter_items l.pass-iterator) ≡ l.initial.lists.items ++ lists_of (into_iter_items l.initial.pass-iterator);
  room : vec_len l.lists + length (into_iter_items l.pass-iterator) ≤ vec_capacity l.lists;
}
