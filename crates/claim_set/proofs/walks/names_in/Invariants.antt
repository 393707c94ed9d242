use Rattle.std.proofs.Common.{◌≡◌, ◌++◌}
use Rattle.serde_json.specs.View.{members_view}
use Rattle.claim_set.specs.Claims.{member_names}
use Rattle.claim_set.proofs.walks.names_in.Given as goal

abbrev pub invariant-loop-name : goal.invariant-loop-name
invariant-loop-name l = l.names ++ member_names (members_view l.name-iterator) ≡ member_names (members_view l.members.entries)
