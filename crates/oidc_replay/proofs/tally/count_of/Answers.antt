use Rattle.std.proofs.Common.{◌≡◌, length, ap, ◌∙◌, arith}
use Rattle.sso_places.specs.World.{World}
use Rattle.running_world.specs.Running.{world_of}
use Rattle.oidc_replay.proofs.Counting.{first_of, all_counted}
use Rattle.oidc_replay.proofs.tally.count_of.Goals as goal

pub returns : goal.returns
returns c =
    let world : World = world_of c.args.play.now.running in
    let whole : c.places-before-end.result ≡ length world = c.places-before-end.ensures in
    let done : c.loop-before.before ≡ length world = omega (arith, whole, c.loop-before.auto.before-end, c.loop-before-test.false) in
    c.loop-before.invariant.counted ∙ ap (first_of c.args.kind world) done ∙ all_counted c.args.kind world
