use Rattle.request_object.proofs.Objects.{request_read-object, object-request_read}
use Rattle.request_object.proofs.law.read_objects_are_request_objects.Goals as goal

pub returns-clause-object : goal.returns-clause-object
returns-clause-object c = request_read-object

pub returns-clause-read : goal.returns-clause-read
returns-clause-read c = object-request_read
