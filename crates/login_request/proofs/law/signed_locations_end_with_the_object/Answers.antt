use Rattle.login_request.proofs.SignedEnds.{signed_ends}
use Rattle.login_request.proofs.law.signed_locations_end_with_the_object.Goals as goal

pub returns : goal.returns
returns c = signed_ends
