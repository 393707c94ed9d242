-- The bodies of responses with a refresh token (RFC 6749, 5.1 and 6).
use Rattle.std.specs.Prelude.{List, [], ◌∷◌, codes, Some}
use Rattle.serde_json.specs.Data.{string, no_members}
use Rattle.sso_base.specs.Words.{Text}
use Rattle.oidc_words.specs.Lives.{access_life}
use Rattle.oidc_words.specs.Scopes.{scope_text}
use Rattle.oidc_words.specs.TokenTypes.{bearer_word}
use Rattle.oidc_words.specs.declared.scopes.Scopes.{Scopes}
use Rattle.claim_set.specs.Building.{Entry, put_all, number_value}
use Rattle.claim_set.specs.Reading.{claims_text}

-- the members of a token response for a code, with a refresh token
abbrev pub first_entries : Text → Text → Text → List Entry
first_entries access id refresh =
    (codes "access_token", Some (string access))
    ∷ (codes "expires_in", Some (number_value access_life))
    ∷ (codes "id_token", Some (string id))
    ∷ (codes "refresh_token", Some (string refresh))
    ∷ (codes "token_type", Some (string bearer_word)) ∷ []

unfoldable pub first_text : Text → Text → Text → Text
first_text access id refresh = claims_text (put_all (first_entries access id refresh) no_members)

-- the members of a response to a refresh request
abbrev pub refreshed_entries : Text → Text → Scopes → List Entry
refreshed_entries access refresh scopes =
    (codes "access_token", Some (string access))
    ∷ (codes "expires_in", Some (number_value access_life))
    ∷ (codes "refresh_token", Some (string refresh))
    ∷ (codes "scope", Some (string (scope_text scopes)))
    ∷ (codes "token_type", Some (string bearer_word)) ∷ []

unfoldable pub refreshed_text : Text → Text → Scopes → Text
refreshed_text access refresh scopes = claims_text (put_all (refreshed_entries access refresh scopes) no_members)
