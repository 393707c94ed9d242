use Rattle.op_answer.proofs.Passwords.{session_words_need_a_password}
use Rattle.op_answer.proofs.law.session_words_need_a_password.Goals as goal

pub returns : goal.returns
returns c = session_words_need_a_password
