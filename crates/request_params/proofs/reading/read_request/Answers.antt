use Rattle.request_params.specs.Names.{AreTexts}
use Rattle.request_params.specs.Reading.{request_read, HasRequest, RefusesForm}
use Rattle.request_params.specs.declared.no.AskNo.TheVariants.{NoMemory}
use Rattle.sso_base.proofs.Answering.{if_answered, only_memory, if_refused, is_refused}
use Rattle.request_params.proofs.Requests.{read-request, request-read, form_refused, refused_form}
use Rattle.request_params.proofs.Lossy.{texts_read}
use Rattle.request_params.proofs.reading.read_request.Goals as goal

pub returns-clause-request : goal.returns-clause-request
returns-clause-request c = if_answered (request_read c.args.form.now) (λ p. HasRequest c.args.form.now p) (read-request c.args.form.now) c.read.result c.read.ensures.answers

pub returns-clause-texts : goal.returns-clause-texts
returns-clause-texts c = if_answered (request_read c.args.form.now) (λ p. AreTexts p) (texts_read c.args.form.now) c.read.result c.read.ensures.answers

pub returns-clause-accepts : goal.returns-clause-accepts
returns-clause-accepts c = λ p has. only_memory NoMemory (request_read c.args.form.now) p (request-read c.args.form.now p has) c.read.result c.read.ensures.refuses

pub returns-clause-cause : goal.returns-clause-cause
returns-clause-cause c = if_refused NoMemory (request_read c.args.form.now) (RefusesForm c.args.form.now) (form_refused c.args.form.now) c.read.result c.read.ensures.refuses

pub returns-clause-refused : goal.returns-clause-refused
returns-clause-refused c = λ why r. is_refused NoMemory (request_read c.args.form.now) why (refused_form c.args.form.now why r) c.read.result c.read.ensures.answers c.read.ensures.refuses
