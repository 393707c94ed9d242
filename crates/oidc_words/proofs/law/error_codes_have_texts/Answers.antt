use Rattle.oidc_words.proofs.ErrorCodes.{error_of-error_text, error_says, says_error}
use Rattle.oidc_words.proofs.law.error_codes_have_texts.Goals as goal

pub returns-clause-read : goal.returns-clause-read
returns-clause-read c = error_of-error_text

pub returns-clause-says : goal.returns-clause-says
returns-clause-says c = error_says

pub returns-clause-said : goal.returns-clause-said
returns-clause-said c = says_error
