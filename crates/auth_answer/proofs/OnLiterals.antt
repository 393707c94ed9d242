use Rattle.std.specs.Prelude.{⊤}
use Rattle.sso_base.proofs.OnLiterals.{base64url_on_literals}
use Rattle.request_params.proofs.OnLiterals.{request_params_on_literals}
use Rattle.oidc_words.specs.Errors.{error_text, error_of}
use Rattle.auth_answer.specs.Printing.{answer_location, refusal_location}
use Rattle.auth_answer.specs.Reading.{answer_read}

-- what an answer unfolds to compute responses on literals
unfoldable pub auth_answer_on_literals : ⊤
unfolding base64url_on_literals request_params_on_literals error_text error_of answer_location refusal_location answer_read
auth_answer_on_literals = tt
