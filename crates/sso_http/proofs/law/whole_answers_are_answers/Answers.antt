use Rattle.sso_http.proofs.OnePeer.{whole_is_answer}
use Rattle.sso_http.proofs.law.whole_answers_are_answers.Goals as goal

pub returns : goal.returns
returns c = whole_is_answer
