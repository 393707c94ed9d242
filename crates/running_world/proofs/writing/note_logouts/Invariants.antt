use Rattle.std.proofs.Common.{◌≡◌, length}
use Rattle.running_world.specs.Noting.{AreNoted}
use Rattle.running_world.proofs.WrittenTexts.{tokens_up_to}
use Rattle.running_world.proofs.writing.note_logouts.Given as goal

-- the tokens of the clients so far are noted
abbrev pub invariant-loop-client : goal.invariant-loop-client
invariant-loop-client l = record {
  count : length l.written ≡ length l.registry.clients;
  noted : AreNoted l.fn.written l.written (tokens_up_to l.registry l.out l.session.clients l.client);
}
