-- The full pages of a relying party, in HTML (our choice): its front page, after it was left, and for a login that failed. The
-- title on them is that of its client. Titles and subjects are escaped.
use Rattle.std.specs.Prelude.{Bool, true, false, [], ◌++◌, codes, Option, Some, None, if◌then◌else◌}
use Rattle.sso_base.specs.Words.{Text}
use Rattle.oidc_words.specs.declared.errors.AuthError.{AuthError}
use Rattle.oidc_words.specs.declared.errors.AuthError.TheVariants.{AccessDenied}
use Rattle.oidc_words.specs.Paths.{home_path, begin_path, leave_path}
use Rattle.rp_login.specs.declared.table.RpTable.{RpTable}
use Rattle.rp_login.specs.declared.table.RpTable.TheVariants.{Seen}
use Rattle.rp_exchange.specs.declared.no.RpNo.{RpNo}
use Rattle.rp_exchange.specs.declared.no.RpNo.TheVariants as no
use Rattle.html_pages.specs.Escaping.{escaped}
use Rattle.html_pages.specs.Documents.{document}
use Rattle.html_pages.specs.Forms.{form, alert, small_line}
use Rattle.rp_response.specs.Refusals.{refusal_line}

-- a link to a path
unfoldable pub link_to : Text → Text → Text
link_to path words = codes "<p><a class=\"go\" href=\"" ++ path ++ codes "\">" ++ words ++ codes "</a></p>\n"

-- a link that begins a login
abbrev pub begin_link : Text → Text
begin_link words = link_to begin_path words

-- ---- the front page

unfoldable pub leave_button : Text
leave_button = codes "<button>Sign out</button>\n</form>\n"

abbrev pub user_content : Text → Text
user_content sub = codes "<p>You are signed in as <b>" ++ escaped sub ++ codes "</b>.</p>\n" ++ form leave_path ++ leave_button

-- of an application with this title, for a user with this subject
abbrev pub full_user_page : Text → Text → Text
full_user_page title sub = document (codes "Welcome") title (user_content sub)

abbrev pub full_nobody_page : Text → Text
full_nobody_page title = document (codes "You are not signed in") title (begin_link (codes "Sign in"))

-- ---- after it was left

abbrev pub full_left_page : Text → Text
full_left_page title = document (codes "You are signed out") title (begin_link (codes "Sign in again"))

-- ---- a login that failed

abbrev pub denied_advice : AuthError → Text
denied_advice AccessDenied = codes "You did not agree, or you may not use this application."
denied_advice code = codes "You could not be signed in. Please begin again."

abbrev pub unfinished_advice : Text
unfinished_advice = codes "This site could not finish the sign-in. Its operator can see why from the line below."

-- what happened, and what a user can do
abbrev pub refusal_advice : RpNo → Text
refusal_advice (no.Provider code) = denied_advice code
refusal_advice (no.Full table) = codes "Too many people are signing in. Please wait for some minutes."
refusal_advice (no.Tokens why) = unfinished_advice
refusal_advice (no.Id why) = unfinished_advice
refusal_advice (no.Info why) = unfinished_advice
refusal_advice other = codes "It took too long, was done already, or began in another browser."

-- whoever goes back after signing in finds that the login was done already: the front page says who is signed in
abbrev pub onward_link : RpNo → Text
onward_link no.StaleLogin = link_to home_path (codes "Go on, if you are signed in")
onward_link other = []

unfoldable pub refused_content : RpNo → Text
refused_content why = alert (refusal_advice why) ++ onward_link why ++ begin_link (codes "Begin again") ++ small_line (refusal_line why)

abbrev pub full_refused_page : Text → RpNo → Text
full_refused_page title why = document (codes "Signing in failed") title (refused_content why)

abbrev pub is_seen : RpTable → Bool
is_seen Seen = true
is_seen other = false

-- the refusal of a logout token, which no user sees
abbrev pub is_of_logout : RpNo → Bool
is_of_logout (no.Logout why) = true
is_of_logout (no.Seen place) = true
is_of_logout (no.Full table) = is_seen table
is_of_logout other = false

-- ---- pages in place of lines, if pages are full

abbrev pub user_page : Bool → Text → Text → Option Text
user_page false title sub = None
user_page true title sub = Some (full_user_page title sub)

abbrev pub nobody_page : Bool → Text → Option Text
nobody_page false title = None
nobody_page true title = Some (full_nobody_page title)

abbrev pub left_page : Bool → Text → Option Text
left_page false title = None
left_page true title = Some (full_left_page title)

abbrev pub refused_page : Bool → Text → RpNo → Option Text
refused_page false title why = None
refused_page true title why = if is_of_logout why then None else Some (full_refused_page title why)
