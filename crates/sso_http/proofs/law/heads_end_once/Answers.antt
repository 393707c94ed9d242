use Rattle.sso_http.proofs.OneHead.{one_head}
use Rattle.sso_http.proofs.law.heads_end_once.Goals as goal

pub returns : goal.returns
returns c head other rest more = one_head head other rest more
