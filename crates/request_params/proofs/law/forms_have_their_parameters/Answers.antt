use Rattle.request_params.proofs.Requests.{read-request, request-read}
use Rattle.request_params.proofs.Lossy.{texts_read}
use Rattle.request_params.proofs.law.forms_have_their_parameters.Goals as goal

pub returns-clause-stands : goal.returns-clause-stands
returns-clause-stands c = read-request

pub returns-clause-read : goal.returns-clause-read
returns-clause-read c = request-read

pub returns-clause-texts : goal.returns-clause-texts
returns-clause-texts c = texts_read
