use Rattle.honest_login.proofs.Entering.{honest_logins_succeed}
use Rattle.honest_login.proofs.law.honest_entry.Goals as goal

pub returns : goal.returns
returns c = honest_logins_succeed
