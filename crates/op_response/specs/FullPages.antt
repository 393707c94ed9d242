-- The full pages of the provider, in HTML (our choice): login and consent (OpenID Connect Core 1.0, 3.1.2.3 and 3.1.2.4), the
-- end of a session, and errors. Titles are escaped; nothing else in them has to be, as in the plain pages.
use Rattle.std.specs.Prelude.{Bool, true, false, [], ◌∷◌, ◌++◌, ◌/◌, codes, decimal, Option, Some, None}
use Rattle.std.specs.List.{concat}
use Rattle.sso_base.specs.Words.{Text}
use Rattle.oidc_words.specs.Lives.{turn_life}
use Rattle.oidc_words.specs.Paths.{login_path, consent_path, signout_path}
use Rattle.oidc_words.specs.declared.scopes.Scopes.{Scopes}
use Rattle.auth_request.specs.declared.wish.PageNo.{PageNo}
use Rattle.auth_request.specs.declared.wish.PageNo.TheVariants as page
use Rattle.op_exchange.specs.Fields.{turn_field, user_field, password_field, agree_field, agree_value}
use Rattle.html_pages.specs.Escaping.{escaped}
use Rattle.html_pages.specs.Documents.{document, document_until}
use Rattle.html_pages.specs.Forms.{form, hidden, alert, small_line}
use Rattle.op_response.specs.Lines.{page_word}

-- ---- the login page

abbrev pub again_alert : Bool → Text
again_alert true = alert (codes "The user name or the password is wrong.")
again_alert false = []

-- password managers find the fields by `autocomplete`
unfoldable pub login_fields : Text
login_fields =
    codes "<label for=\"user\">User name</label>\n<input id=\"user\" name=\""
    ++ user_field
    ++ codes "\" autocomplete=\"username\" autocapitalize=\"none\" spellcheck=\"false\" required autofocus>\n<label for=\"password\">Password</label>\n"
    ++ codes "<input id=\"password\" type=\"password\" name=\""
    ++ password_field
    ++ codes "\" autocomplete=\"current-password\" required>\n<button>Sign in</button>\n</form>\n"

abbrev pub login_content : Text → Text → Bool → Text
login_content prefix turn again = again_alert again ++ form (prefix ++ login_path) ++ hidden turn_field turn ++ login_fields

-- of a site with this title: the form of a turn, given the turn's text, with an action below the path of the issuer; `again`
-- after a wrong password. When a turn of this moment is over, a user agent leaves the page for one that says how to begin again.
abbrev pub full_login_page : Text → Text → Text → Bool → Text
full_login_page site prefix turn again =
    document_until (decimal turn_life) (prefix ++ login_path) (codes "Sign in") site (login_content prefix turn again)

-- ---- the consent page

abbrev pub item : Bool → Text → Text
item false words = []
item true words = words

-- the requested scope values, in words
unfoldable pub scope_items : Scopes → Text
scope_items s =
    item s.openid (codes "<li>who you are: the identifier of your account</li>\n")
    ++ item s.profile (codes "<li>your profile, such as your name and picture</li>\n")
    ++ item s.email (codes "<li>your email address</li>\n")
    ++ item s.address (codes "<li>your postal address</li>\n")
    ++ item s.phone (codes "<li>your phone number</li>\n")

abbrev pub asked_for : Text → Scopes → Text
asked_for application scopes =
    codes "<p><b>" ++ escaped application ++ codes "</b> asks for:</p>\n<ul>\n" ++ scope_items scopes ++ codes "</ul>\n"

unfoldable pub agree_buttons : Text
agree_buttons =
    codes "<button name=\""
    ++ agree_field
    ++ codes "\" value=\""
    ++ agree_value
    ++ codes "\">Agree</button>\n<button class=\"quiet\" name=\""
    ++ agree_field
    ++ codes "\" value=\"no\">Refuse</button>\n</form>\n"

abbrev pub agree_form : Text → Text → Text
agree_form prefix turn = form (prefix ++ consent_path) ++ hidden turn_field turn ++ agree_buttons

-- whoever is signed in may be somebody else
unfoldable pub other_button : Text
other_button = codes "<p>Not you? <button class=\"quiet link\">Sign out</button></p>\n</form>\n"

abbrev pub other_form : Text → Text
other_form prefix = form (prefix ++ signout_path) ++ other_button

unfoldable pub consent_content : Text → Text → Text → Scopes → Text
consent_content prefix turn application scopes = asked_for application scopes ++ agree_form prefix turn ++ other_form prefix

-- of a site with this title: the form of a turn, given the turn's text, with an action below the path of the issuer; the title
-- of the application and the requested scope values
abbrev pub full_consent_page : Text → Text → Text → Text → Scopes → Text
full_consent_page site prefix turn application scopes = document (codes "Do you agree?") site (consent_content prefix turn application scopes)

-- ---- after a sign-out

unfoldable pub signed_out_content : Text
signed_out_content = codes "<p>Applications that sign out together with this site are notified. You can close this page.</p>\n"

abbrev pub full_signed_out_page : Text → Text
full_signed_out_page site = document (codes "You are signed out") site signed_out_content

-- ---- errors

abbrev pub error_heading : PageNo → Text
error_heading page.Client = codes "Unknown application"
error_heading page.Redirect = codes "Unknown address"
error_heading page.Twice = codes "Unclear request"
error_heading page.Turn = codes "Already used, or too late"
error_heading page.Browser = codes "Another browser's page"

-- how long a page to sign in works
abbrev pub turn_minutes : Text
turn_minutes = decimal (turn_life / 60)

-- what a user can do
abbrev pub error_advice : PageNo → Text
error_advice page.Client = codes "The application that sent you here is not registered with this site. Please tell those who run it."
error_advice page.Redirect = codes "The application asks for an answer at an address that is not registered for it. Please tell those who run it."
error_advice page.Twice = codes "The application sent something twice that may come once. Please go back to it and begin again."
error_advice page.Turn =
    concat (
    codes "A page to sign in works once, and for "
    ∷ turn_minutes
    ∷ codes " minutes. Please go back to the application and begin again." ∷ [])
error_advice page.Browser =
    codes "This sign-in began in another browser, or this one keeps no cookies. Please go back to the application and begin again."

-- the line of a plain page
abbrev pub error_line : PageNo → Text
error_line why = codes "error " ++ page_word why

unfoldable pub error_content : PageNo → Text
error_content why = alert (error_advice why) ++ small_line (error_line why)

abbrev pub full_error_page : Text → PageNo → Text
full_error_page site why = document (error_heading why) site (error_content why)

-- ---- other pages that say what a user can do

-- a page with a heading and an advice, of a site with this title, and the line of the plain page
abbrev pub notice_page : Text → Text → Text → Text → Text
notice_page site heading advice line = document heading site (alert advice ++ small_line line)

abbrev pub full_table_page : Text → Text
full_table_page site =
    notice_page site (codes "Please come back later") (codes "Too many people are signing in. Please wait for some minutes and begin again.") (codes "full")

-- a page to sign in that is too old leads here
unfoldable pub missing_advice : Text
missing_advice =
    concat (
    codes "If you were signing in, that took too long: a page to sign in works for "
    ∷ turn_minutes
    ∷ codes " minutes. Please go back to the application and begin again." ∷ [])

abbrev pub full_missing_page : Text → Text
full_missing_page site = notice_page site (codes "Page not found") missing_advice (codes "not here")

-- ---- pages in place of lines, if pages are full

abbrev pub table_page : Bool → Text → Option Text
table_page false site = None
table_page true site = Some (full_table_page site)

abbrev pub missing_page : Bool → Text → Option Text
missing_page false site = None
missing_page true site = Some (full_missing_page site)

abbrev pub error_page : Bool → Text → PageNo → Option Text
error_page false site why = None
error_page true site why = Some (full_error_page site why)

abbrev pub signed_out_page : Bool → Text → Option Text
signed_out_page false site = None
signed_out_page true site = Some (full_signed_out_page site)
