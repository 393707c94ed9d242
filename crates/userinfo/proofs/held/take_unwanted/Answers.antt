use Rattle.std.proofs.Common.{arith}
use Rattle.userinfo.specs.Held.{is_wanted}
use Rattle.userinfo.proofs.Sifting.{sifted_through}
use Rattle.userinfo.proofs.held.take_unwanted.Goals as goal

pub returns : goal.returns
returns c =
    sifted_through (is_wanted c.args.scopes c.args.asked.now) c.args.names.now c.args.claims.now c.loop-place.claims c.loop-place.place
    (omega (arith, c.loop-place.auto.place-end, c.count-place-end.ensures, c.loop-place-test.false)) c.requires.same c.requires.in_order c.loop-place.invariant
