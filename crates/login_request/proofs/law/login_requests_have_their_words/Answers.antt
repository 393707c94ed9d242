use Rattle.std.proofs.Common.{refl}
use Rattle.login_request.proofs.Apart.{words_apart}
use Rattle.login_request.proofs.law.login_requests_have_their_words.Goals as goal

pub returns-clause-state : goal.returns-clause-state
returns-clause-state c = λ client party state nonce. refl

pub returns-clause-nonce : goal.returns-clause-nonce
returns-clause-nonce c = λ client party state nonce. refl

pub returns-clause-apart : goal.returns-clause-apart
returns-clause-apart c = words_apart
