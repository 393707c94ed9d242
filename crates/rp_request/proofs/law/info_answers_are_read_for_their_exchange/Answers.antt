use Rattle.rp_request.proofs.InfoAnswers.{has_info, reads_info, refuses_info}
use Rattle.rp_request.proofs.law.info_answers_are_read_for_their_exchange.Goals as goal

pub returns-clause-read : goal.returns-clause-read
returns-clause-read c = λ pending w answer sub h. has_info pending answer w sub h

pub returns-clause-reads : goal.returns-clause-reads
returns-clause-reads c = reads_info

pub returns-clause-refuses : goal.returns-clause-refuses
returns-clause-refuses c = refuses_info
