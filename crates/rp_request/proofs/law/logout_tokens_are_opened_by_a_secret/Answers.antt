use Rattle.rp_request.proofs.Logouts.{logout_opened, logout_accepted, logout_reads}
use Rattle.rp_request.proofs.law.logout_tokens_are_opened_by_a_secret.Goals as goal

pub returns-clause-reads : goal.returns-clause-reads
returns-clause-reads c = logout_reads

pub returns-clause-opened : goal.returns-clause-opened
returns-clause-opened c = logout_opened

pub returns-clause-accepted : goal.returns-clause-accepted
returns-clause-accepted c = logout_accepted
