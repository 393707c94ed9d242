use Rattle.web_requests.proofs.ForgedTokens.{own_subject, other_subject}
use Rattle.web_requests.proofs.ForgedAnswers.{forged_followed_read}
use Rattle.web_requests.proofs.law.forged_tokens_differ_in_the_subject.Goals as goal

pub returns-clause-own : goal.returns-clause-own
returns-clause-own c = own_subject

pub returns-clause-other : goal.returns-clause-other
returns-clause-other c = other_subject

pub returns-clause-followed : goal.returns-clause-followed
returns-clause-followed c = λ configuration n answer secret claims user given from jar l r low is own token t s state h. forged_followed_read configuration n r low answer secret claims user is own token t s given from jar l state h
