use Rattle.rp_request.proofs.Callbacks.{has_answer, hears_answer, refuses_answer, answer_refuses}
use Rattle.rp_request.proofs.law.callbacks_are_read_from_forms.Goals as goal

pub returns-clause-heard : goal.returns-clause-heard
returns-clause-heard c = has_answer

pub returns-clause-hears : goal.returns-clause-hears
returns-clause-hears c = hears_answer

pub returns-clause-refused : goal.returns-clause-refused
returns-clause-refused c = refuses_answer

pub returns-clause-refuses : goal.returns-clause-refuses
returns-clause-refuses c = answer_refuses
