use Rattle.jws_compact.proofs.Splits.{is_some-three_parts}
use Rattle.jws_compact.proofs.law.texts_have_two_dots.Goals as goal

pub returns : goal.returns
returns c = is_some-three_parts
