use Rattle.std.proofs.Common.{◌≡◌}
use Rattle.serde_json.specs.View.{members_view}
use Rattle.claim_set.specs.Reading.{first_float}
use Rattle.claim_set.proofs.walks.first_with_float.Given as goal

abbrev pub invariant-loop-key : goal.invariant-loop-key
invariant-loop-key l = first_float (members_view l.key-iterator) ≡ first_float (members_view l.members.entries)
