use Rattle.std.proofs.Common.{◌≡◌, drop}
use Rattle.sso_base.specs.Texts.{has_text}
use Rattle.configuration_rows.proofs.party_rules.is_among.Given as goal

abbrev pub invariant-loop-other : goal.invariant-loop-other
invariant-loop-other l = has_text l.text (drop l.other-index l.texts) ≡ has_text l.text l.texts
