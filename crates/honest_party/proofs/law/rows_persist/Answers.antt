use Rattle.honest_party.proofs.Persisting.{login_persists, pending_persists}
use Rattle.honest_party.proofs.law.rows_persist.Goals as goal

pub returns-clause-logins : goal.returns-clause-logins
returns-clause-logins c = login_persists

pub returns-clause-exchanges : goal.returns-clause-exchanges
returns-clause-exchanges c = pending_persists
