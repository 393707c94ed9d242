use Rattle.rp_answer.proofs.Entering.{sessions_need_a_login}
use Rattle.rp_answer.proofs.law.sessions_need_a_login.Goals as goal

pub returns : goal.returns
returns c = sessions_need_a_login
