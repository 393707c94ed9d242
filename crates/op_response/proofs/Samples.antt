-- The definitions of what is told, computed on replies.
use Rattle.std.proofs.Common.{◌≡◌, true, false, [], ◌∷◌, ◌++◌, codes, Some, None, refl}
use Rattle.std.specs.Fmt.{digits}
use Rattle.oidc_words.specs.declared.errors.AuthError.TheVariants.{AccessDenied}
use Rattle.oidc_words.specs.declared.errors.Refusal.{Refusal}
use Rattle.auth_request.specs.declared.wish.PageNo.TheVariants as page
use Rattle.auth_answer.specs.declared.answer.Answer.{Answer}
use Rattle.auth_answer.proofs.OnLiterals.{auth_answer_on_literals}
use Rattle.token_endpoint.specs.declared.error.TokenError.TheVariants.{InvalidClient, InvalidGrant}
use Rattle.sso_base.specs.declared.http.Kind.TheVariants.{Plain, Html}
use Rattle.client_registry.specs.Records.{usual_settings}
use Rattle.client_registry.specs.Configuration.{Configuration}
use Rattle.sso_base.proofs.OnLiterals.{base64url_on_literals}
use Rattle.http_reply.specs.UserAgent.{cookie_read}
use Rattle.op_exchange.specs.declared.reply.OpReply.TheVariants as reply
use Rattle.op_response.specs.Cookies.{session_cookie, session_cookies}
use Rattle.op_response.specs.Pages.{login_text, login_page, consent_text, consent_page}
use Rattle.oidc_words.specs.Scopes.{scope_text}
use Rattle.op_response.specs.Lines.{line_of}
use Rattle.op_response.specs.FullPages.{turn_minutes, scope_items}
use Rattle.op_response.specs.Telling.{http_of, application_title}
use Rattle.http_reply.specs.Told.{kept, sets_cookie}
use Rattle.op_response.specs.Told.{words_set, is_token_response, has_mark}
use Rattle.op_exchange.proofs.Sample.{word, sample, shop_client, profile_scopes, callback_uri}

-- ---- cookies

-- a provider at https, whose names of cookies begin with `__Host-`
abbrev of_a_host : Configuration
of_a_host = record sample { secure = true; settings = record usual_settings { host_cookies = true } }

no_session : session_cookies of_a_host None ≡ []
no_session = refl

a_session : session_cookies (record sample { secure = true }) (Some (word 3)) ≡ codes "op_s=AAAAAAAAAAAAAAAAAAAAAAAAAAAAAAAAAAAAAAAAAAM; Path=/; HttpOnly; SameSite=Lax; Secure" ∷ []
unfolding base64url_on_literals
a_session = refl

a_session_of_a_host : session_cookies of_a_host (Some (word 3)) ≡ codes "__Host-op_s=AAAAAAAAAAAAAAAAAAAAAAAAAAAAAAAAAAAAAAAAAAM; Path=/; HttpOnly; SameSite=Lax; Secure" ∷ []
unfolding base64url_on_literals
a_session_of_a_host = refl

words_of_a_consent_page : words_set false (reply.ConsentPage (word 2) (word 1) (Some (word 3)) (codes "shop-client") profile_scopes) ≡ (codes "op_b", word 1) ∷ (codes "op_s", word 3) ∷ []
words_of_a_consent_page = refl

words_of_tokens : words_set true (reply.Tokens (word 5) (codes "h.p.m")) ≡ []
words_of_tokens = refl

a_session_is_set : sets_cookie (session_cookie false) (codes "op_b=v; Path=/" ∷ codes "op_s=w; Path=/" ∷ []) ≡ true
a_session_is_set = refl

no_session_is_set : sets_cookie (session_cookie false) (codes "op_b=op_s=; Path=/" ∷ []) ≡ false
no_session_is_set = refl

nothing_is_set : sets_cookie (session_cookie false) (codes "op_s; Path=/" ∷ []) ≡ false
nothing_is_set = refl

a_cookie_is_kept : kept false (codes "op_s", word 3) ≡ cookie_read (codes "op_s=AAAAAAAAAAAAAAAAAAAAAAAAAAAAAAAAAAAAAAAAAAM; Path=/; HttpOnly; SameSite=Lax")
unfolding base64url_on_literals
a_cookie_is_kept = refl

-- ---- pages

a_login_page : login_page (codes "/sso") (codes "W") false ≡ codes "<!doctype html><title>Login</title><form method=\"post\" action=\"/sso/login\"><input type=\"hidden\" name=\"turn\" value=\"W\"><input name=\"user\"><input type=\"password\" name=\"password\"><button>Login</button></form>"
unfolding login_text
a_login_page = refl

a_login_page_again : login_page [] (codes "W") true ≡ codes "<!doctype html><title>Login</title><form method=\"post\" action=\"/login\"><input type=\"hidden\" name=\"turn\" value=\"W\"><input name=\"user\"><input type=\"password\" name=\"password\"><button>Login</button></form><p>Wrong user or password.</p>"
unfolding login_text
a_login_page_again = refl

a_consent_page : consent_page [] (codes "W") (codes "shop-client") profile_scopes ≡ codes "<!doctype html><title>Consent</title><p>shop-client: openid profile</p><form method=\"post\" action=\"/consent\"><input type=\"hidden\" name=\"turn\" value=\"W\"><button name=\"agree\" value=\"yes\">Yes</button><button name=\"agree\" value=\"no\">No</button></form>"
unfolding consent_text
a_consent_page = refl

no_scope_values : scope_text (record { openid = false; profile = false; email = false; address = false; phone = false }) ≡ []
no_scope_values = refl

last_and_first : scope_text (record { openid = true; profile = false; email = false; address = true; phone = true }) ≡ codes "openid address phone"
last_and_first = refl

an_id_has_no_mark : has_mark (codes "shop-client_1.~A") ≡ false
an_id_has_no_mark = refl

a_tag_has_marks : has_mark (codes "a<b") ≡ true
a_tag_has_marks = refl

-- ---- replies

abbrev denied : Refusal
denied = record { redirect = callback_uri; fragment = false; state = Some (codes "state"); code = AccessDenied }

error_page_told : http_of sample (reply.ErrorPage page.Browser) ≡ record { status = 400; pragma = false; location = None; cookies = []; challenge = None; kind = Plain; body = codes "error browser" ++ 10 ∷ [] }
unfolding http_of
error_page_told = refl

abbrev titled : Configuration
titled = record sample { full_pages = true; title = codes "Accounts" }

full_table_told : http_of sample reply.Full ≡ record { status = 503; pragma = false; location = None; cookies = []; challenge = None; kind = Plain; body = codes "full" ++ 10 ∷ [] }
unfolding http_of
full_table_told = refl

full_table_page_has_its_status : (http_of titled reply.Full).status ≡ 503
unfolding http_of
full_table_page_has_its_status = refl

unknown_path_told : http_of sample reply.NotHere ≡ record { status = 404; pragma = false; location = None; cookies = []; challenge = None; kind = Plain; body = codes "not here" ++ 10 ∷ [] }
unfolding http_of
unknown_path_told = refl

turns_are_for_ten_minutes : turn_minutes ≡ codes "10"
unfolding digits
turns_are_for_ten_minutes = refl

full_error_page_told : (http_of titled (reply.ErrorPage page.Browser)).kind ≡ Html
unfolding http_of
full_error_page_told = refl

full_error_page_has_its_status : (http_of titled (reply.ErrorPage page.Turn)).status ≡ 400
unfolding http_of
full_error_page_has_its_status = refl

title_of_an_unknown_application : application_title titled (codes "news-client") ≡ codes "news-client"
title_of_an_unknown_application = refl

title_of_an_application : application_title (record titled { clients = (record shop_client { title = codes "A Shop" }) ∷ [] }) (codes "shop-client") ≡ codes "A Shop"
title_of_an_application = refl

scopes_in_words : scope_items profile_scopes ≡ codes "<li>who you are: the identifier of your account</li>\n<li>your profile, such as your name and picture</li>\n"
unfolding scope_items
scopes_in_words = refl

client_challenged : (http_of sample (reply.TokenRefused InvalidClient)).challenge ≡ Some (codes "Basic realm=\"sso\"")
unfolding http_of
client_challenged = refl

grant_not_challenged : (http_of sample (reply.TokenRefused InvalidGrant)).challenge ≡ None
unfolding http_of
grant_not_challenged = refl

refusal_sent : (http_of sample (reply.Refused denied None)).location ≡ Some (codes "http://127.0.0.1:8081/cb?error=access_denied&state=state")
unfolding http_of auth_answer_on_literals
refusal_sent = refl

no_token_challenged : (http_of sample (reply.InfoRefused false)).challenge ≡ Some (codes "Bearer realm=\"sso\"")
unfolding http_of
no_token_challenged = refl

dead_token_challenged : (http_of sample (reply.InfoRefused true)).challenge ≡ Some (codes "Bearer error=\"invalid_token\"")
unfolding http_of
dead_token_challenged = refl

refusals_are_token_responses : is_token_response (reply.TokenRefused InvalidGrant) ≡ true
refusals_are_token_responses = refl

pages_are_no_token_responses : is_token_response (reply.ErrorPage page.Turn) ≡ false
pages_are_no_token_responses = refl

-- ---- lines

abbrev hybrid : Answer
hybrid = record { redirect = callback_uri; fragment = true; code = Some (word 4); access = Some (word 5); id = Some (codes "h.p.m"); state = None }

line_of_an_answer : line_of (reply.Answered hybrid (Some (word 3))) ≡ codes "answer code id_token token"
unfolding line_of
line_of_an_answer = refl

line_of_a_refusal : line_of (reply.Refused denied None) ≡ codes "error access_denied"
unfolding line_of auth_answer_on_literals
line_of_a_refusal = refl

line_of_a_dead_token : line_of (reply.InfoRefused true) ≡ codes "info invalid_token"
unfolding line_of
line_of_a_dead_token = refl

line_of_a_sign_out : line_of (reply.SignedOut []) ≡ codes "signout 0"
unfolding line_of digits
line_of_a_sign_out = refl
