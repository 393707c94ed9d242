use Rattle.std.proofs.Common.{◌≡◌, drop}
use Rattle.userinfo.specs.Held.{is_wanted}
use Rattle.userinfo.proofs.Sifting.{sifted}
use Rattle.userinfo.proofs.held.take_unwanted.Given as goal

-- going over the names that are left gives what going over all of them does
abbrev pub invariant-loop-place : goal.invariant-loop-place
invariant-loop-place l = sifted (is_wanted l.scopes l.asked) (drop l.place l.names) l.claims ≡ sifted (is_wanted l.scopes l.asked) l.names l.fn.claims
