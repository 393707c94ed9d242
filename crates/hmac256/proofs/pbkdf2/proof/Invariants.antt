use Rattle.std.proofs.Common.{◌≡◌}
use Rattle.hmac256.specs.Hmac.{iterate_of, proof_of}
use Rattle.hmac256.proofs.pbkdf2.proof.Given as goal

abbrev pub invariant-rounds : goal.invariant-rounds
invariant-rounds l = record {
  iterate : l.iterate ≡ iterate_of l.password l.salt l.counter;
  total : l.total ≡ proof_of l.password l.salt l.counter;
}
