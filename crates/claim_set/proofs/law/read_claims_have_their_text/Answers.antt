use Rattle.claim_set.proofs.Parsing.{read_reads, reads_read}
use Rattle.claim_set.proofs.Order.{InOrder-Reads, nests-Reads}
use Rattle.claim_set.proofs.law.read_claims_have_their_text.Goals as goal

pub returns-clause-reads : goal.returns-clause-reads
returns-clause-reads c = read_reads

pub returns-clause-read : goal.returns-clause-read
returns-clause-read c = reads_read

pub returns-clause-in_order : goal.returns-clause-in_order
returns-clause-in_order c = InOrder-Reads

pub returns-clause-nests : goal.returns-clause-nests
returns-clause-nests c = nests-Reads
