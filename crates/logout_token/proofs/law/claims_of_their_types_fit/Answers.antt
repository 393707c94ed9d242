use Rattle.logout_token.proofs.Fitting.{fits-logout_members}
use Rattle.logout_token.proofs.law.claims_of_their_types_fit.Goals as goal

pub returns : goal.returns
returns c = fits-logout_members
