use Rattle.userinfo.proofs.Answering.{read_is_info, info_is_read}
use Rattle.userinfo.proofs.law.read_answers_are_user_info.Goals as goal

pub returns-clause-info : goal.returns-clause-info
returns-clause-info c = read_is_info

pub returns-clause-read : goal.returns-clause-read
returns-clause-read c = info_is_read
