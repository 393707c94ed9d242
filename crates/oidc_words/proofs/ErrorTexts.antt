-- The texts of error codes are in UTF-8.
use Rattle.std.proofs.Common.{refl}
use Rattle.std.specs.Str.{IsUtf8}
use Rattle.oidc_words.specs.declared.errors.AuthError.{AuthError}
use Rattle.oidc_words.specs.declared.errors.AuthError.TheVariants.{InvalidRequest, UnauthorizedClient, AccessDenied, UnsupportedResponseType, InvalidScope, ServerError, TemporarilyUnavailable, InteractionRequired, LoginRequired, AccountSelectionRequired, ConsentRequired, InvalidRequestUri, InvalidRequestObject, RequestNotSupported, RequestUriNotSupported, RegistrationNotSupported, Other}
use Rattle.oidc_words.specs.Errors.{error_text}
use Rattle.sso_base.proofs.Utf8Bytes.{IsUtf8-are_ascii}

pub IsUtf8-error_text : (code : AuthError) → IsUtf8 (error_text code)
unfolding error_text
IsUtf8-error_text InvalidRequest = IsUtf8-are_ascii (error_text InvalidRequest) refl
IsUtf8-error_text UnauthorizedClient = IsUtf8-are_ascii (error_text UnauthorizedClient) refl
IsUtf8-error_text AccessDenied = IsUtf8-are_ascii (error_text AccessDenied) refl
IsUtf8-error_text UnsupportedResponseType = IsUtf8-are_ascii (error_text UnsupportedResponseType) refl
IsUtf8-error_text InvalidScope = IsUtf8-are_ascii (error_text InvalidScope) refl
IsUtf8-error_text ServerError = IsUtf8-are_ascii (error_text ServerError) refl
IsUtf8-error_text TemporarilyUnavailable = IsUtf8-are_ascii (error_text TemporarilyUnavailable) refl
IsUtf8-error_text InteractionRequired = IsUtf8-are_ascii (error_text InteractionRequired) refl
IsUtf8-error_text LoginRequired = IsUtf8-are_ascii (error_text LoginRequired) refl
IsUtf8-error_text AccountSelectionRequired = IsUtf8-are_ascii (error_text AccountSelectionRequired) refl
IsUtf8-error_text ConsentRequired = IsUtf8-are_ascii (error_text ConsentRequired) refl
IsUtf8-error_text InvalidRequestUri = IsUtf8-are_ascii (error_text InvalidRequestUri) refl
IsUtf8-error_text InvalidRequestObject = IsUtf8-are_ascii (error_text InvalidRequestObject) refl
IsUtf8-error_text RequestNotSupported = IsUtf8-are_ascii (error_text RequestNotSupported) refl
IsUtf8-error_text RequestUriNotSupported = IsUtf8-are_ascii (error_text RequestUriNotSupported) refl
IsUtf8-error_text RegistrationNotSupported = IsUtf8-are_ascii (error_text RegistrationNotSupported) refl
IsUtf8-error_text Other = IsUtf8-are_ascii (error_text Other) refl
