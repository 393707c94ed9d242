use Rattle.std.proofs.Common.{◌≡◌, take, map}
use Rattle.toml.specs.View.{view}
use Rattle.client_registry.specs.Registered.{AllHoldClaims}
use Rattle.client_registry.specs.Records.{user_of}
use Rattle.client_registry.proofs.rows.users_of.Given as goal

-- the records of the rows so far, with claims that fit
abbrev pub invariant-loop-row : goal.invariant-loop-row
invariant-loop-row l = record {
  value : l.users.items ≡ map user_of (map view (take l.row-index l.rows));
  claims : AllHoldClaims l.users.items;
}
