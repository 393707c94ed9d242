use Rattle.logout_token.proofs.Tokens.{logout_read-unopened, logout_read-unread, logout_read-refused, logout_read-accepted}
use Rattle.logout_token.proofs.law.refused_tokens_have_the_first_reason.Goals as goal

pub returns-clause-unopened : goal.returns-clause-unopened
returns-clause-unopened c = logout_read-unopened

pub returns-clause-unread : goal.returns-clause-unread
returns-clause-unread c = λ k h p t e sealed. logout_read-unread k h p t sealed e

pub returns-clause-refused : goal.returns-clause-refused
returns-clause-refused c = λ k h p t ms e sealed. logout_read-refused k h p t sealed ms e

pub returns-clause-accepted : goal.returns-clause-accepted
returns-clause-accepted c = λ k h p t ms sealed. logout_read-accepted k h p t sealed ms
