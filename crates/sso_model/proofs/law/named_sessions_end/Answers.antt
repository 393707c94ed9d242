use Rattle.sso_model.proofs.NamedEnds.{none_left, others_stay}
use Rattle.sso_model.proofs.law.named_sessions_end.Goals as goal

pub returns-clause-ended : goal.returns-clause-ended
returns-clause-ended c = λ m message count row named has. none_left message m.live row named has

pub returns-clause-others : goal.returns-clause-others
returns-clause-others c = λ m message count row other has. others_stay message m.live row other has
