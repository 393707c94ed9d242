use Rattle.std.proofs.Common.{◌≡◌, ◌≤◌}
use Rattle.running_world.specs.Running.{world_of}
use Rattle.oidc_replay.proofs.Counting.{first_of}
use Rattle.oidc_replay.proofs.tally.count_of.Given as goal

abbrev pub invariant-loop-before : goal.invariant-loop-before
invariant-loop-before l = record {
  few : l.count ≤ l.before;
  counted : l.count ≡ first_of l.kind (world_of l.play.running) l.before;
}
