-- The definitions of what is told, computed on replies.
use Rattle.std.proofs.Common.{◌≡◌, true, false, [], ◌∷◌, ◌++◌, codes, Some, None, refl}
use Rattle.std.specs.Fmt.{digits}
use Rattle.sso_base.specs.declared.http.Kind.TheVariants.{Empty, Plain}
use Rattle.sso_base.proofs.OnLiterals.{base64url_on_literals}
use Rattle.http_reply.specs.UserAgent.{cookie_read}
use Rattle.jws_compact.specs.declared.no.JwsNo.TheVariants as jws_no
use Rattle.jws_compact.specs.Names.{jws_name}
use Rattle.claim_set.specs.declared.no.ClaimNo.TheVariants as claim_no
use Rattle.id_token.specs.declared.no.IdNo.TheVariants as id_no
use Rattle.logout_token.specs.declared.no.LogoutNo.TheVariants as logout_no
use Rattle.token_endpoint.specs.declared.no.TokensNo.TheVariants as tokens_no
use Rattle.userinfo.specs.declared.no.InfoNo.TheVariants as info_no
use Rattle.oidc_words.specs.declared.errors.AuthError.TheVariants.{AccessDenied, Other}
use Rattle.auth_answer.proofs.OnLiterals.{auth_answer_on_literals}
use Rattle.rp_login.specs.declared.table.RpTable.TheVariants.{Logins}
use Rattle.rp_exchange.specs.declared.no.Part.TheVariants.{Code}
use Rattle.rp_exchange.specs.declared.no.RpNo.TheVariants as no
use Rattle.rp_exchange.specs.declared.reply.RpReply.TheVariants as reply
use Rattle.rp_exchange.proofs.Sample.{word, sample}
use Rattle.rp_response.specs.Cookies.{browser_cookie, session_cookie}
use Rattle.rp_response.specs.Lines.{line_of}
use Rattle.rp_response.specs.Telling.{http_of}
use Rattle.http_reply.specs.Told.{kept, sets_cookie}
use Rattle.rp_response.specs.Told.{words_set, sends_on, is_full}

-- ---- cookies

words_of_an_ask : words_set false (codes "shop") (reply.Ask (codes "u") (word 1)) ≡ (codes "shop_b", word 1) ∷ []
words_of_an_ask = refl

words_of_a_session : words_set false (codes "news") (reply.Entered (word 3) (codes "alice")) ≡ (codes "news_s", word 3) ∷ []
words_of_a_session = refl

words_of_a_user : words_set false (codes "news") (reply.User (codes "alice")) ≡ []
words_of_a_user = refl

words_of_a_session_of_a_host : words_set true (codes "news") (reply.Entered (word 3) (codes "alice")) ≡ (codes "__Host-news_s", word 3) ∷ []
words_of_a_session_of_a_host = refl

a_session_is_set : sets_cookie (session_cookie false (codes "shop")) (codes "shop_b=v; Path=/" ∷ codes "shop_s=w; Path=/" ∷ []) ≡ true
a_session_is_set = refl

no_session_is_set : sets_cookie (session_cookie false (codes "shop")) (codes "news_s=w; Path=/" ∷ codes "shop_s; Path=/" ∷ []) ≡ false
no_session_is_set = refl

a_cookie_is_kept : kept false (browser_cookie false (codes "shop"), word 3) ≡ cookie_read (codes "shop_b=AAAAAAAAAAAAAAAAAAAAAAAAAAAAAAAAAAAAAAAAAAM; Path=/; HttpOnly; SameSite=Lax")
unfolding base64url_on_literals
a_cookie_is_kept = refl

-- ---- replies

session_told : http_of sample 1 (reply.Entered (word 3) (codes "alice"))
    ≡ record { status = 303; pragma = false; location = Some (codes "/"); cookies = codes "news_s=AAAAAAAAAAAAAAAAAAAAAAAAAAAAAAAAAAAAAAAAAAM; Path=/; HttpOnly; SameSite=Lax" ∷ []; challenge = None; kind = Empty; body = [] }
unfolding http_of base64url_on_literals
session_told = refl

refusal_told : http_of sample 0 (reply.Refused (no.Id (id_no.Jws jws_no.BadMac)))
    ≡ record { status = 400; pragma = false; location = None; cookies = []; challenge = None; kind = Plain; body = codes "refused Id Jws BadMac" ++ 10 ∷ [] }
unfolding http_of jws_name
refusal_told = refl

full_told : (http_of sample 0 (reply.Refused (no.Full Logins))).status ≡ 503
unfolding http_of
full_told = refl

logins_send_on : sends_on (reply.Ask (codes "u") (word 1)) ≡ true
logins_send_on = refl

users_do_not : sends_on (reply.User (codes "alice")) ≡ false
users_do_not = refl

logins_are_full : is_full (no.Full Logins) ≡ true
logins_are_full = refl

a_stale_login_is_not : is_full no.StaleLogin ≡ false
a_stale_login_is_not = refl

-- ---- lines

line_of_a_session : line_of (reply.Entered (word 3) (codes "alice")) ≡ codes "session alice"
unfolding line_of
line_of_a_session = refl

line_of_a_logout : line_of (reply.Ended 0) ≡ codes "ended 0"
unfolding line_of digits
line_of_a_logout = refl

line_of_a_leave : line_of (reply.Left false) ≡ codes "left nothing"
unfolding line_of
line_of_a_leave = refl

line_of_a_missing_part : line_of (reply.Refused (no.Missing Code)) ≡ codes "refused Missing"
unfolding line_of
line_of_a_missing_part = refl

line_of_a_code : line_of (reply.Refused (no.Provider AccessDenied)) ≡ codes "refused Provider access_denied"
unfolding line_of auth_answer_on_literals
line_of_a_code = refl

line_of_another_code : line_of (reply.Refused (no.Provider Other)) ≡ codes "refused Provider other"
unfolding line_of auth_answer_on_literals
line_of_another_code = refl

line_of_claims : line_of (reply.Refused (no.Tokens (tokens_no.Claims claim_no.NotJson))) ≡ codes "refused Tokens Claims NotJson"
unfolding line_of
line_of_claims = refl

line_of_userinfo : line_of (reply.Refused (no.Info (info_no.Status 401))) ≡ codes "refused Info Status"
unfolding line_of
line_of_userinfo = refl

line_of_a_logout_token : line_of (reply.Refused (no.Logout logout_no.HasNonce)) ≡ codes "refused Logout HasNonce"
unfolding line_of
line_of_a_logout_token = refl
