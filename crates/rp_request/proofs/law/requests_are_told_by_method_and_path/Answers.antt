use Rattle.rp_request.proofs.Routing.{not_here, not_here_to_none, own_to}
use Rattle.rp_request.proofs.law.requests_are_told_by_method_and_path.Goals as goal

pub returns-clause-elsewhere : goal.returns-clause-elsewhere
returns-clause-elsewhere c = not_here

pub returns-clause-nothing : goal.returns-clause-nothing
returns-clause-nothing c = λ configuration n request e h. not_here_to_none configuration n request h e

pub returns-clause-own : goal.returns-clause-own
returns-clause-own c = own_to
