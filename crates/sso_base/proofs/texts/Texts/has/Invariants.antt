use Rattle.std.proofs.Common.{◌≡◌}
use Rattle.sso_base.specs.Texts.{has_text}
use Rattle.sso_base.proofs.texts.Texts.has.Given as goal

abbrev pub invariant-loop-other : goal.invariant-loop-other
invariant-loop-other l =
    (has_text l.text l.other-iterator ≡ has_text l.text l.self)
    × (goal.iterator-loop-other).can_next l.other-iterator
    × (goal.iterator-loop-other).is_finite l.other-iterator
