use Rattle.std.proofs.Common.{◌≡◌, ◌++◌}
use Rattle.serde_json.specs.View.{members_view}
use Rattle.auth_request.specs.ClaimsParameter.{standard_names}
use Rattle.auth_request.proofs.claims_parameter.standard_names.Given as goal

abbrev pub invariant-loop-name : goal.invariant-loop-name
invariant-loop-name l = l.names ++ standard_names (members_view l.name-iterator) ≡ standard_names (members_view l.members.entries)
