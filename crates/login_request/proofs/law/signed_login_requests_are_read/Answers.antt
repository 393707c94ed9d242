use Rattle.login_request.proofs.Asked.{beside_read, object_of_issuer, whole_merged}
use Rattle.login_request.proofs.law.signed_login_requests_are_read.Goals as goal

pub returns-clause-beside : goal.returns-clause-beside
returns-clause-beside c = beside_read

pub returns-clause-object : goal.returns-clause-object
returns-clause-object c = object_of_issuer

pub returns-clause-whole : goal.returns-clause-whole
returns-clause-whole c = whole_merged
