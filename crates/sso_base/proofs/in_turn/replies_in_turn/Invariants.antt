use Rattle.std.proofs.Common.{◌≡◌, ◌++◌, [], length}
use Rattle.sso_base.specs.Asked.{history_by}
use Rattle.sso_base.proofs.in_turn.replies_in_turn.Given as goal

abbrev pub invariant-loop-asked : goal.invariant-loop-asked
invariant-loop-asked g l = record {
  left : l.fn.asks.items ≡ l.yielded ++ l.asked-iterator.rest.items;
  told : g.C.Core.history l.core ≡ history_by [] l.yielded l.replies.items;
  each : length l.replies.items ≡ length l.yielded;
  setup : g.C.Core.setup l.core ≡ g.C.Core.setup l.fn.core;
  legal : g.C.Core.is_legal (g.C.Core.setup l.core) (g.C.Core.history l.core);
}
