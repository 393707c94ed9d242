-- The error codes of the token endpoint (RFC 6749, 5.2).
use Rattle.std.specs.Prelude.{codes}
use Rattle.serde_json.specs.Data.{string, no_members, put}
use Rattle.sso_base.specs.Words.{Text}
use Rattle.claim_set.specs.Reading.{claims_text}
use Rattle.oidc_words.specs.declared.errors.AuthError.TheVariants as auth
use Rattle.oidc_words.specs.Errors as oidc
use Rattle.token_endpoint.specs.declared.no.GrantNo.{GrantNo}
use Rattle.token_endpoint.specs.declared.no.GrantNo.TheVariants.{NoAuth, WrongClient, OtherGrant}
use Rattle.token_endpoint.specs.declared.error.TokenError.{TokenError}
use Rattle.token_endpoint.specs.declared.error.TokenError.TheVariants.{InvalidRequest, InvalidClient, InvalidGrant, UnsupportedGrantType}

-- the error code for a rejected request (there is none for `NoMemory`)
abbrev pub token_error : GrantNo → TokenError
token_error NoAuth = InvalidClient
token_error WrongClient = InvalidClient
token_error OtherGrant = UnsupportedGrantType
token_error other = InvalidRequest

-- the text of an error code
abbrev pub error_code : TokenError → Text
error_code InvalidRequest = oidc.error_text auth.InvalidRequest
error_code InvalidClient = codes "invalid_client"
error_code InvalidGrant = codes "invalid_grant"
error_code UnsupportedGrantType = codes "unsupported_grant_type"

-- the body of an error response
unfoldable pub error_text : TokenError → Text
error_text error = claims_text (put (codes "error") (string (error_code error)) no_members)
