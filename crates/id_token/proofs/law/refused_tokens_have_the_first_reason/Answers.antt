use Rattle.id_token.proofs.Tokens as tokens
use Rattle.id_token.proofs.law.refused_tokens_have_the_first_reason.Goals as goal

pub returns-clause-unopened : goal.returns-clause-unopened
returns-clause-unopened c = tokens.unopened

pub returns-clause-unread : goal.returns-clause-unread
returns-clause-unread c = tokens.unread

pub returns-clause-refused : goal.returns-clause-refused
returns-clause-refused c = tokens.refused

pub returns-clause-accepted : goal.returns-clause-accepted
returns-clause-accepted c = tokens.accepted
