use Rattle.op_issue.proofs.Sealable.{has_texts, sealable, is_read_back}
use Rattle.op_issue.proofs.OpenedTexts.{issued_opens}
use Rattle.op_issue.proofs.law.issued_tokens_are_read.Goals as goal

pub returns-clause-texts : goal.returns-clause-texts
returns-clause-texts c = has_texts

pub returns-clause-sealable : goal.returns-clause-sealable
returns-clause-sealable c = sealable

pub returns-clause-read_back : goal.returns-clause-read_back
returns-clause-read_back c = is_read_back

pub returns-clause-opened : goal.returns-clause-opened
returns-clause-opened c = issued_opens
