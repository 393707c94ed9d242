use Rattle.std.proofs.Common.{sym, ap, ◌∙◌}
use Rattle.configuration_rows.specs.declared.no.RegNo.TheVariants as no
use Rattle.configuration_rows.proofs.Noting.{noted}
use Rattle.configuration_rows.proofs.party_rules.type_rule.Goals as goal

pub returns : goal.returns
returns c = noted c.note.result _ _ _ _ c.note.new.self (sym c.in_ok-lacks_type.ensures ∙ c.if-not-branch.false) (ap no.WrongKind c.in_ok-path.ensures) c.note.ensures
