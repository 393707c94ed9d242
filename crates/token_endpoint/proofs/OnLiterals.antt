use Rattle.std.specs.Prelude.{⊤}
use Rattle.base64.proofs.OnLiterals.{base64_on_literals}
use Rattle.claim_set.proofs.OnLiterals.{claims_on_literals}
use Rattle.oidc_words.specs.Errors as oidc
use Rattle.request_params.proofs.OnLiterals.{request_params_on_literals}
use Rattle.token_endpoint.specs.Base64.{b64, unb64}
use Rattle.token_endpoint.specs.Basic.{basic_read, basic_auth}
use Rattle.token_endpoint.specs.Authentication.{client_read}
use Rattle.token_endpoint.specs.Request.{code_read, grant_read, token_message}
use Rattle.token_endpoint.specs.Errors.{error_text}
use Rattle.token_endpoint.specs.Answer.{tokens_text, raw_in, whole, tokens_in, tokens_read}

-- what an answer unfolds to compute token requests and responses on literals
unfoldable pub token_endpoint_on_literals : ⊤
unfolding base64_on_literals claims_on_literals request_params_on_literals b64 unb64 basic_read basic_auth client_read code_read grant_read token_message oidc.error_text error_text tokens_text raw_in whole tokens_in tokens_read
token_endpoint_on_literals = tt
