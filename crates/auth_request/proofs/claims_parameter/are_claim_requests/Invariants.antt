use Rattle.std.proofs.Common.{◌≡◌}
use Rattle.serde_json.specs.View.{members_view}
use Rattle.auth_request.specs.ClaimsParameter.{are_claim_requests}
use Rattle.auth_request.proofs.claims_parameter.are_claim_requests.Given as goal

abbrev pub invariant-loop-name : goal.invariant-loop-name
invariant-loop-name l = are_claim_requests (members_view l._name-iterator) ≡ are_claim_requests (members_view l.members.entries)
