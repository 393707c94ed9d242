use Rattle.sso_base.proofs.Answering.{if_answered, only_memory, only_answer}
use Rattle.userinfo.specs.declared.no.InfoNo.TheVariants.{NoMemory}
use Rattle.userinfo.specs.Answer.{info_read, IsUserInfo}
use Rattle.userinfo.proofs.Answering.{read_is_info, info_is_read}
use Rattle.userinfo.proofs.exchange.read_info.Goals as goal

pub returns-clause-info : goal.returns-clause-info
returns-clause-info c = if_answered (info_read c.args.answer.now) (IsUserInfo c.args.answer.now) (read_is_info c.args.answer.now) c.subject_of.result c.subject_of.ensures.ok

pub returns-clause-accepts : goal.returns-clause-accepts
returns-clause-accepts c = λ t i. only_memory NoMemory (info_read c.args.answer.now) t (info_is_read c.args.answer.now t i) c.subject_of.result c.subject_of.ensures.err

pub returns-clause-value : goal.returns-clause-value
returns-clause-value c = λ t i. only_answer (info_read c.args.answer.now) t (info_is_read c.args.answer.now t i) c.subject_of.result c.subject_of.ensures.ok
