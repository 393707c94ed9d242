-- The metadata of a provider, as members of a JSON object (OpenID Connect Discovery 1.0, 3; OpenID Connect Back-Channel
-- Logout 1.0, 2.1).
use Rattle.std.specs.Prelude.{true, false, List, [], ◌∷◌, ◌++◌, ℕ, Some, option_map, codes}
use Rattle.serde_json.specs.Data.{Data, string, boolean, array, Members, no_members}
use Rattle.claim_set.specs.Claims.{text_items}
use Rattle.claim_set.specs.Building.{Entry, put_all}
use Rattle.oidc_words.specs.Modes.{response_modes}
use Rattle.oidc_words.specs.Paths.{keys_path}
use Rattle.oidc_words.specs.Scopes.{scope_words}
use Rattle.oidc_words.specs.Types.{response_types}
use Rattle.client_registry.specs.declared.records.Provider.{Provider}
use Rattle.client_registry.specs.Records.{endpoint}

abbrev pub texts : List (List ℕ) → Data
texts ts = array (text_items ts)

-- the algorithms of ID Tokens and of request objects
abbrev pub algorithms : List (List ℕ)
algorithms = codes "HS256" ∷ []

-- the kinds of subject (OpenID Connect Core 1.0, 8)
abbrev pub subject_types : List (List ℕ)
subject_types = codes "public" ∷ codes "pairwise" ∷ []

-- how a client may authenticate at the token endpoint (OpenID Connect Core 1.0, 9)
abbrev pub auth_methods : List (List ℕ)
auth_methods = codes "client_secret_basic" ∷ codes "client_secret_post" ∷ []

-- the members, in the order of their names
abbrev pub endpoint_entries : Provider → List Entry
endpoint_entries p =
    (codes "authorization_endpoint", Some (string p.authorize))
    ∷ (codes "backchannel_logout_session_supported", Some (boolean true))
    ∷ (codes "backchannel_logout_supported", Some (boolean true))
    ∷ (codes "claims_parameter_supported", Some (boolean true))
    ∷ (codes "id_token_signing_alg_values_supported", Some (texts algorithms))
    ∷ (codes "issuer", Some (string p.issuer)) ∷ []

abbrev pub request_entries : Provider → List Entry
request_entries p =
    (codes "jwks_uri", Some (string (endpoint p.issuer keys_path)))
    ∷ (codes "request_object_signing_alg_values_supported", Some (texts algorithms))
    ∷ (codes "request_parameter_supported", Some (boolean true))
    ∷ (codes "request_uri_parameter_supported", Some (boolean false))
    ∷ (codes "response_modes_supported", Some (texts response_modes))
    ∷ (codes "response_types_supported", Some (texts response_types)) ∷ []

abbrev pub subject_entries : List Entry
subject_entries =
    (codes "scopes_supported", Some (texts scope_words))
    ∷ (codes "subject_types_supported", Some (texts subject_types)) ∷ []

abbrev pub token_entries : Provider → List Entry
token_entries p =
    (codes "token_endpoint", Some (string p.token))
    ∷ (codes "token_endpoint_auth_methods_supported", Some (texts auth_methods))
    ∷ (codes "userinfo_endpoint", option_map string p.userinfo) ∷ []

abbrev pub metadata_entries : Provider → List Entry
metadata_entries p = endpoint_entries p ++ request_entries p ++ subject_entries ++ token_entries p

-- the metadata of a provider
unfoldable pub metadata : Provider → Members
metadata p = put_all (metadata_entries p) no_members
