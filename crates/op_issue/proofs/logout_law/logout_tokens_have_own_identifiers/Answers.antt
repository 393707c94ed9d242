use Rattle.op_issue.proofs.Identifiers.{ids_tell}
use Rattle.op_issue.proofs.logout_law.logout_tokens_have_own_identifiers.Goals as goal

pub returns : goal.returns
returns c = ids_tell
