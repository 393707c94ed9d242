use Rattle.std.proofs.Common.{sym}
use Rattle.claim_set.proofs.Lookups.{IsClaims-get}
use Rattle.claim_set.proofs.claim_set.ClaimSet.member.Goals as goal

pub copied-requires : goal.copied-requires
copied-requires c = IsClaims-get _ _ c.args.name.now c.self.invariant c.in-Some.ensures (sym c.if-is_object.ensures)
