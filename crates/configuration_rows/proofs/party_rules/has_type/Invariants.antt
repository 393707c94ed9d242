use Rattle.std.proofs.Common.{◌≡◌, drop}
use Rattle.configuration_rows.specs.Rows.{has_type}
use Rattle.configuration_rows.proofs.party_rules.has_type.Given as goal

abbrev pub invariant-loop-text : goal.invariant-loop-text
invariant-loop-text l = has_type l.number (drop l.text-index l.texts) ≡ has_type l.number l.texts
