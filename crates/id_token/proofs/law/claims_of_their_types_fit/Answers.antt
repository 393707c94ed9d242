use Rattle.id_token.proofs.Fitting.{fits-id_members}
use Rattle.id_token.proofs.law.claims_of_their_types_fit.Goals as goal

pub returns : goal.returns
returns c = fits-id_members
