use Rattle.end_request.proofs.Naming.{hint_names}
use Rattle.end_request.proofs.law.hints_name_their_client.Goals as goal

pub returns : goal.returns
returns c = hint_names
