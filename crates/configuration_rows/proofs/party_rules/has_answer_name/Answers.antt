use Rattle.std.proofs.Common.{◌≡◌, false, sym, ◌∙◌}
use Rattle.sso_base.specs.Texts.{has_text}
use Rattle.configuration_rows.specs.Rows.{answer_names}
use Rattle.configuration_rows.proofs.Lists.{any_rest}
use Rattle.configuration_rows.proofs.party_rules.has_answer_name.Goals as goal

pub loop-place-preserved : goal.loop-place-preserved
loop-place-preserved c =
    let absent : has_text c.at.result.now answer_names ≡ false = sym c.is_answer_name.ensures ∙ c.if-is_answer_name.false in
    any_rest (λ name. has_text name answer_names) c.args.names.now c.loop-place.place c.at.result.now _ c.at.ensures absent c.loop-place.invariant
