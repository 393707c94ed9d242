use Rattle.server_roles.proofs.ReadCookies.{provider_reads, party_reads}
use Rattle.server_roles.proofs.law.cookies_are_read_as_they_were_set.Goals as goal

pub returns-clause-provider : goal.returns-clause-provider
returns-clause-provider c = provider_reads

pub returns-clause-party : goal.returns-clause-party
returns-clause-party c = party_reads
