use Rattle.serde_json.proofs.Views.{view-Object}
use Rattle.claim_set.proofs.Puts.{IsClaims-after}
use Rattle.claim_set.proofs.claim_set.ClaimSet.put.Goals as goal

pub invariant_of-self-2 : goal.invariant_of-self-2
invariant_of-self-2 c =
    IsClaims-after _ _ _ _ c.args.name.now _ c.self.invariant c.in-Some.ensures.value c.in_ok-put.ensures.ok (view-Object c.put.new.map) c.requires.whole c.requires.nests
