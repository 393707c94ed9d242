use Rattle.sso_http.proofs.NoCause.{read_without_cause}
use Rattle.sso_http.proofs.law.requests_without_a_cause_are_read.Goals as goal

pub returns : goal.returns
returns c = read_without_cause
