use Rattle.sso_places.proofs.Merging.{merged_legal}
use Rattle.sso_places.proofs.law.merges_are_legal.Goals as goal

pub returns : goal.returns
returns c = merged_legal
