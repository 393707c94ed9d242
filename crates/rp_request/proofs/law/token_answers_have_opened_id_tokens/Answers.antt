use Rattle.rp_request.proofs.TokenAnswers.{tokens_opened, tokens_accepted}
use Rattle.rp_request.proofs.law.token_answers_have_opened_id_tokens.Goals as goal

pub returns-clause-opened : goal.returns-clause-opened
returns-clause-opened c = λ configuration n pending w answer tokens id h. tokens_opened configuration n pending answer w tokens id h

pub returns-clause-accepted : goal.returns-clause-accepted
returns-clause-accepted c = λ configuration n pending w answer tokens id claims h token. tokens_accepted configuration n pending answer w tokens id claims h token
