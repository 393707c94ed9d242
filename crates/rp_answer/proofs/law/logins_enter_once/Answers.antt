use Rattle.rp_answer.proofs.LoginsOnce.{logins_enter_once}
use Rattle.rp_answer.proofs.law.logins_enter_once.Goals as goal

pub returns : goal.returns
returns c = logins_enter_once
