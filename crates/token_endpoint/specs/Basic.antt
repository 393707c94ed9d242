-- HTTP Basic as clients use it: an `Authorization` header with a client's id and secret (RFC 7617, 2; RFC 6749, 2.3.1; OpenID
-- Connect Core 1.0, 9, `client_secret_basic`).
use Rattle.std.specs.Prelude.{◌≡◌, ℕ, Bool, IsFalse, List, ◌∷◌, ◌++◌, codes, Option, Some, None, option_map, option_and_then, if◌then◌else◌}
use Rattle.std.specs.Str.{bytes_eq, str_to_ascii_lowercase}
use Rattle.base64.specs.GeneralPurpose.{IsBytes}
use Rattle.form_urlencoded.specs.Form.{byte_serialize}
use Rattle.sso_base.specs.Words.{Text}
use Rattle.client_registry.specs.declared.records.Client.{Client}
use Rattle.client_registry.specs.Secrets.{sealing}
use Rattle.request_params.specs.Form.{text_of}
use Rattle.request_params.specs.Scheme.{split_once, scheme_of, has_byte}
use Rattle.token_endpoint.specs.declared.basic.Credentials.{Credentials}
use Rattle.token_endpoint.specs.Base64.{b64, unb64}

-- ---- reading

-- the scheme is `Basic`, in any case (RFC 9110, 11.1)
abbrev pub is_basic_scheme : List ℕ → Bool
is_basic_scheme scheme = bytes_eq (str_to_ascii_lowercase scheme) (codes "basic")

-- the header, if its scheme is `Basic`
abbrev pub basic_header : Option (List ℕ) → Option (List ℕ)
basic_header None = None
basic_header (Some header) = if is_basic_scheme (scheme_of header) then Some header else None

-- an id and a secret, decoded from form encoding
abbrev pub decoded : List ℕ × List ℕ → Credentials
decoded parts = record { id = text_of parts.0; secret = text_of parts.1 }

-- the id and the secret in bytes, separated by the first colon
abbrev pub divided : List ℕ → Option Credentials
divided bytes = option_map decoded (split_once 58 bytes)

-- the credentials after the first space of a header, if they can be read
unfoldable pub basic_read : List ℕ → Option Credentials
basic_read header = option_and_then (λ parts. option_and_then divided (unb64 parts.1)) (split_once 32 header)

-- ---- writing

-- the header with a client's id and the secret that it seals with
unfoldable pub basic_auth : Client → Text
basic_auth client = codes "Basic " ++ b64 (byte_serialize client.id ++ codes ":" ++ byte_serialize (sealing client))

-- ---- the same, stated literally

-- the header is `Basic` in any case, one space, and the base64 of an id, a colon and a secret, each in form encoding, and these
-- are the credentials
pub record IsBasic (header : List ℕ) (shown : Credentials) : Type 0 where
  pub scheme : List ℕ
  pub id : List ℕ
  pub secret : List ℕ
  pub name : str_to_ascii_lowercase scheme ≡ codes "basic"
  pub text : header ≡ scheme ++ 32 ∷ b64 (id ++ 58 ∷ secret)
  pub bytes : IsBytes (id ++ 58 ∷ secret)
  pub no_colon : IsFalse (has_byte 58 id)
  pub is_id : shown.id ≡ text_of id
  pub is_secret : shown.secret ≡ text_of secret
