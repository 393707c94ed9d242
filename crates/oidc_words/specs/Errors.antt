-- The error codes of authorization responses and their texts (RFC 6749, 4.1.2.1; OpenID Connect Core 1.0, 3.1.2.6), and the
-- error code of a bearer token (RFC 6750, 3.1).
use Rattle.std.specs.Prelude.{◌≡◌, ◌⊎◌, List, [], ◌∷◌, codes, find, unwrap_or}
use Rattle.std.specs.Str.{bytes_eq}
use Rattle.sso_base.specs.Words.{Text}
use Rattle.oidc_words.specs.declared.errors.AuthError.{AuthError}
use Rattle.oidc_words.specs.declared.errors.AuthError.TheVariants.{InvalidRequest, UnauthorizedClient, AccessDenied, UnsupportedResponseType, InvalidScope}
use Rattle.oidc_words.specs.declared.errors.AuthError.TheVariants.{ServerError, TemporarilyUnavailable, InteractionRequired, LoginRequired}
use Rattle.oidc_words.specs.declared.errors.AuthError.TheVariants.{AccountSelectionRequired, ConsentRequired, InvalidRequestUri, InvalidRequestObject}
use Rattle.oidc_words.specs.declared.errors.AuthError.TheVariants.{RequestNotSupported, RequestUriNotSupported, RegistrationNotSupported, Other}

-- the sixteen codes that the two standards define
abbrev pub error_codes : List AuthError
error_codes =
    InvalidRequest ∷ UnauthorizedClient ∷ AccessDenied ∷ UnsupportedResponseType ∷ InvalidScope ∷ ServerError
    ∷ TemporarilyUnavailable ∷ InteractionRequired ∷ LoginRequired ∷ AccountSelectionRequired ∷ ConsentRequired
    ∷ InvalidRequestUri ∷ InvalidRequestObject ∷ RequestNotSupported ∷ RequestUriNotSupported ∷ RegistrationNotSupported ∷ []

-- the text of a code; `other` is our choice
unfoldable pub error_text : AuthError → Text
error_text InvalidRequest = codes "invalid_request"
error_text UnauthorizedClient = codes "unauthorized_client"
error_text AccessDenied = codes "access_denied"
error_text UnsupportedResponseType = codes "unsupported_response_type"
error_text InvalidScope = codes "invalid_scope"
error_text ServerError = codes "server_error"
error_text TemporarilyUnavailable = codes "temporarily_unavailable"
error_text InteractionRequired = codes "interaction_required"
error_text LoginRequired = codes "login_required"
error_text AccountSelectionRequired = codes "account_selection_required"
error_text ConsentRequired = codes "consent_required"
error_text InvalidRequestUri = codes "invalid_request_uri"
error_text InvalidRequestObject = codes "invalid_request_object"
error_text RequestNotSupported = codes "request_not_supported"
error_text RequestUriNotSupported = codes "request_uri_not_supported"
error_text RegistrationNotSupported = codes "registration_not_supported"
error_text Other = codes "other"

-- the code with this text among the sixteen; `Other` for any other text
unfoldable pub error_of : Text → AuthError
error_of t = unwrap_or (find (λ code. bytes_eq (error_text code) t) error_codes) Other

-- the error code for a request whose access token is not valid (RFC 6750, 3.1)
abbrev pub invalid_token : Text
invalid_token = codes "invalid_token"

-- ---- the same, stated literally

-- the text is that of this code, or this is `Other` and the text is that of no code
abbrev pub SaysError : Text → AuthError → Type 0
SaysError t code = (error_text code ≡ t) ⊎ ((code ≡ Other) × ((any : AuthError) → ¬ (error_text any ≡ t)))
