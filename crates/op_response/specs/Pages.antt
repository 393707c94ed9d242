-- The plain pages on which a user logs in and consents (OpenID Connect Core 1.0, 3.1.2.3 and 3.1.2.4), in HTML (our choice).
--
-- Nothing is escaped in them, because no inserted text has a character with a meaning in HTML. A word's text has letters,
-- digits, `-` and `_`; the id of a client has letters, digits, `.`, `_`, `~` and `-`; scope values have letters. The path of an
-- issuer is serialized as in the URL Standard, without `"`, `<` and `>`. It may have `&`, which has a meaning in HTML only
-- before the name or number of a character.
use Rattle.std.specs.Prelude.{Bool, true, false, [], ◌∷◌, codes}
use Rattle.std.specs.List.{concat}
use Rattle.sso_base.specs.Words.{Text}
use Rattle.oidc_words.specs.Paths.{login_path, consent_path}
use Rattle.oidc_words.specs.declared.scopes.Scopes.{Scopes}
use Rattle.oidc_words.specs.Scopes.{scope_text}
use Rattle.op_exchange.specs.Fields.{turn_field, user_field, password_field, agree_field, agree_value}

-- ---- the login page

abbrev pub again_note : Bool → Text
again_note true = codes "<p>Wrong user or password.</p>"
again_note false = []

unfoldable pub login_text : Text → Text → Text → Text
login_text prefix turn note =
    concat (
    codes "<!doctype html><title>Login</title><form method=\"post\" action=\""
    ∷ prefix
    ∷ login_path
    ∷ codes "\"><input type=\"hidden\" name=\""
    ∷ turn_field
    ∷ codes "\" value=\""
    ∷ turn
    ∷ codes "\"><input name=\""
    ∷ user_field
    ∷ codes "\"><input type=\"password\" name=\""
    ∷ password_field
    ∷ codes "\"><button>Login</button></form>"
    ∷ note ∷ [])

-- the form of a turn, given the turn's text, with an action below the path of the issuer; `again` after a wrong password
abbrev pub login_page : Text → Text → Bool → Text
login_page prefix turn again = login_text prefix turn (again_note again)

-- ---- the consent page

unfoldable pub consent_text : Text → Text → Text → Text → Text
consent_text prefix turn client scopes =
    concat (
    codes "<!doctype html><title>Consent</title><p>"
    ∷ client
    ∷ codes ": "
    ∷ scopes
    ∷ codes "</p><form method=\"post\" action=\""
    ∷ prefix
    ∷ consent_path
    ∷ codes "\"><input type=\"hidden\" name=\""
    ∷ turn_field
    ∷ codes "\" value=\""
    ∷ turn
    ∷ codes "\"><button name=\""
    ∷ agree_field
    ∷ codes "\" value=\""
    ∷ agree_value
    ∷ codes "\">Yes</button><button name=\""
    ∷ agree_field
    ∷ codes "\" value=\"no\">No</button></form>" ∷ [])

-- the form of a turn, given the turn's text, with an action below the path of the issuer: a client's id and the requested scope
-- values
abbrev pub consent_page : Text → Text → Text → Scopes → Text
consent_page prefix turn client scopes = consent_text prefix turn client (scope_text scopes)
