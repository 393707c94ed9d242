use Rattle.request_params.proofs.Requests.{form_refused, refused_form}
use Rattle.request_params.proofs.law.refused_forms_repeat_a_name.Goals as goal

pub returns-clause-cause : goal.returns-clause-cause
returns-clause-cause c = form_refused

pub returns-clause-refused : goal.returns-clause-refused
returns-clause-refused c = refused_form
