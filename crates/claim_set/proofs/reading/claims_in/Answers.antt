use Rattle.std.proofs.Common.{sym}
use Rattle.serde_json.specs.View.{members_view}
use Rattle.claim_set.proofs.Puts.{IsClaims-made}
use Rattle.claim_set.proofs.Parsing.{no_floats}
use Rattle.claim_set.proofs.reading.claims_in.Goals as goal

pub invariant_of-result : goal.invariant_of-result
invariant_of-result c =
    IsClaims-made _ _ c.in-Some.ensures (no_floats (members_view c.in-Some.map.now.entries) (sym c.in_default-first_with_float.ensures)) c.requires
