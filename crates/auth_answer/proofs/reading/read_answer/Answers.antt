use Rattle.auth_answer.specs.Reading.{answer_read, HasAnswer, RefusesAnswer, IsHeard}
use Rattle.auth_answer.specs.declared.no.AnswerNo.TheVariants.{NoMemory}
use Rattle.sso_base.proofs.Answering.{if_answered, only_memory, if_refused, is_refused}
use Rattle.auth_answer.proofs.HeardParts.{read-answer, answer-read, answer_refused, refused_answer, heard_values}
use Rattle.auth_answer.proofs.reading.read_answer.Goals as goal

pub returns-clause-answer : goal.returns-clause-answer
returns-clause-answer c = if_answered (answer_read c.args.form.now) (λ heard. HasAnswer c.args.form.now heard) (read-answer c.args.form.now) c.read.result c.read.ensures.answers

pub returns-clause-values : goal.returns-clause-values
returns-clause-values c = if_answered (answer_read c.args.form.now) (λ heard. IsHeard heard) (heard_values c.args.form.now) c.read.result c.read.ensures.answers

pub returns-clause-accepts : goal.returns-clause-accepts
returns-clause-accepts c = λ heard has. only_memory NoMemory (answer_read c.args.form.now) heard (answer-read c.args.form.now heard has) c.read.result c.read.ensures.refuses

pub returns-clause-cause : goal.returns-clause-cause
returns-clause-cause c = if_refused NoMemory (answer_read c.args.form.now) (RefusesAnswer c.args.form.now) (answer_refused c.args.form.now) c.read.result c.read.ensures.refuses

pub returns-clause-refused : goal.returns-clause-refused
returns-clause-refused c = λ why r. is_refused NoMemory (answer_read c.args.form.now) why (refused_answer c.args.form.now why r) c.read.result c.read.ensures.answers c.read.ensures.refuses
