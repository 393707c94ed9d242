use Rattle.auth_request.proofs.AskedNames.{id_names, info_names}
use Rattle.auth_request.proofs.law.asked_claims_are_standard_members.Goals as goal

pub returns-clause-id_asked : goal.returns-clause-id_asked
returns-clause-id_asked c = id_names

pub returns-clause-info_asked : goal.returns-clause-info_asked
returns-clause-info_asked c = info_names
