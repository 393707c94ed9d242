use Rattle.claim_set.proofs.Order.{refused_for_the_first}
use Rattle.claim_set.proofs.law.refused_texts_name_the_first.Goals as goal

pub returns : goal.returns
returns c = refused_for_the_first
