use Rattle.std.proofs.Common.{◌≡◌, take, reverse}
use Rattle.oidc_replay.specs.Play.{played_of, play_lines}
use Rattle.oidc_replay.proofs.summary.play_all.Given as goal

abbrev pub invariant-loop-line : goal.invariant-loop-line
invariant-loop-line l = record {
  registry : l.play.running.registry ≡ l.fn.play.running.registry;
  seed : l.play.seed ≡ l.trace.seed;
  played : played_of l.play ≡ play_lines l.fn.play.running.registry l.trace.seed (reverse (take l.line-index l.line-items));
}
