use Rattle.request_object.proofs.Fitting.{fits-request_members}
use Rattle.request_object.proofs.law.parameters_of_their_types_fit.Goals as goal

pub returns : goal.returns
returns c = fits-request_members
