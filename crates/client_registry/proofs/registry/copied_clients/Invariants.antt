use Rattle.std.proofs.Common.{◌≡◌, take}
use Rattle.client_registry.proofs.registry.copied_clients.Given as goal

-- the rows so far
abbrev pub invariant-loop-client : goal.invariant-loop-client
invariant-loop-client l = l.copied.items ≡ take l.client-index l.clients
