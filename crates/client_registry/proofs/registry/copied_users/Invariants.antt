use Rattle.std.proofs.Common.{◌≡◌, take}
use Rattle.client_registry.proofs.registry.copied_users.Given as goal

-- the rows so far
abbrev pub invariant-loop-user : goal.invariant-loop-user
invariant-loop-user l = l.copied.items ≡ take l.user-index l.users
