-- The definitions over asks and replies, computed: what an ask weighs, which asks a request can give, which hold values of their
-- types, and what a reply ends, sets and has.
use Rattle.std.proofs.Common.{◌≡◌, ◌<◌, ◌^◌, ℕ, true, false, [], ◌∷◌, replicate, Some, None, Ok, Err, codes, refl, arith}
use Rattle.std.specs.Str.{is_utf8, chars}
use Rattle.std.proofs.lemmas.Str.{is_utf8-from_IsUtf8}
use Rattle.sso_base.specs.Words.{IsWord}
use Rattle.sso_base.proofs.Spelling.{IsBytes-from_all_bytes}
use Rattle.oidc_words.specs.declared.errors.AuthError.TheVariants.{AccessDenied}
use Rattle.oidc_words.specs.declared.errors.Refusal.{Refusal}
use Rattle.auth_request.specs.Values.{IsWishValue}
use Rattle.auth_request.specs.declared.wish.PageNo.TheVariants as page
use Rattle.auth_request.specs.declared.wish.Verdict.TheVariants as verdict
use Rattle.auth_answer.specs.declared.answer.Answer.{Answer}
use Rattle.token_endpoint.specs.declared.granting.Grant.{Grant}
use Rattle.token_endpoint.specs.declared.no.GrantNo.TheVariants as no
use Rattle.userinfo.specs.declared.header.Bearer.TheVariants as bearer
use Rattle.op_exchange.specs.declared.ask.OpAsk.TheVariants as ask
use Rattle.op_exchange.specs.declared.reply.OpReply.TheVariants as reply
use Rattle.op_exchange.specs.Asks.{is_prepared}
use Rattle.op_exchange.specs.Held.{held_bytes, is_small}
use Rattle.op_exchange.specs.Values.{IsOpAsk}
use Rattle.op_exchange.specs.Weight.{ask_weight}
use Rattle.op_exchange.specs.Replied.{ends_turn, session_given, code_in, access_in}
use Rattle.op_exchange.proofs.Sample.{word, sample, wish, profile_scopes, callback_uri}

abbrev grant : Grant
grant = record { client = 0; code = codes "code"; redirect = callback_uri }

abbrev refusal : Refusal
refusal = record { redirect = callback_uri; fragment = false; state = None; code = AccessDenied }

-- ---- weights

weight-of_no_texts : ask_weight ask.Keys ≡ 1024
weight-of_no_texts = refl

-- 4 bytes of the code and 24 of the redirection URI
weight-of_a_grant : ask_weight (ask.Token (Ok grant)) ≡ 1052
weight-of_a_grant = refl

weight-of_a_name : ask_weight (ask.Token (Err (no.Twice (codes "x")))) ≡ 1025
weight-of_a_name = refl

weight-of_another_refusal : ask_weight (ask.Token (Err no.NoAuth)) ≡ 1024
weight-of_another_refusal = refl

-- 24 bytes of the redirection URI, 5 of the state, 5 of the nonce, 3 and 5 of the names of claims, 5 of the subject
weight-of_a_wish : ask_weight (ask.Authorize (verdict.Grant (record wish { subs = Some (codes "alice" ∷ []); id_asked = codes "sub" ∷ []; info_asked = codes "email" ∷ [] })) None None) ≡ 1071
weight-of_a_wish = refl

-- ---- what rows hold

-- 24 bytes of the redirection URI, 5 of the state, 5 of the nonce, 6 of the subject, 4 and 6 of the names of claims
held-of_a_wish : held_bytes (ask.Authorize (verdict.Grant (record wish { subs = Some (codes "alice" ∷ []); id_asked = codes "sub" ∷ []; info_asked = codes "email" ∷ [] })) None None) ≡ 50
held-of_a_wish = refl

held-of_a_grant : held_bytes (ask.Token (Ok grant)) ≡ 0
held-of_a_grant = refl

small-with_1536_bytes : is_small (ask.Authorize (verdict.Grant (record wish { state = Some (replicate 1507 110) })) None None) ≡ true
small-with_1536_bytes = refl

not_small-with_1537_bytes : is_small (ask.Authorize (verdict.Grant (record wish { state = Some (replicate 1508 110) })) None None) ≡ false
not_small-with_1537_bytes = refl

-- ---- asks that a request can give

prepared-a_wish : is_prepared sample (ask.Authorize (verdict.Grant wish) None None) ≡ true
prepared-a_wish = refl

unprepared-of_no_client : is_prepared sample (ask.Authorize (verdict.Grant (record wish { client = 1 })) None None) ≡ false
unprepared-of_no_client = refl

prepared-with_a_nonce_of_255_bytes : is_prepared sample (ask.Authorize (verdict.Grant (record wish { nonce = Some (replicate 255 110) })) None None) ≡ true
prepared-with_a_nonce_of_255_bytes = refl

unprepared-with_a_nonce_of_256_bytes : is_prepared sample (ask.Authorize (verdict.Grant (record wish { nonce = Some (replicate 256 110) })) None None) ≡ false
unprepared-with_a_nonce_of_256_bytes = refl

unprepared-without_openid : is_prepared sample (ask.Authorize (verdict.Grant (record wish { scopes = record profile_scopes { openid = false } })) None None) ≡ false
unprepared-without_openid = refl

prepared-another_verdict : is_prepared sample (ask.Authorize (verdict.Page page.Client) None None) ≡ true
prepared-another_verdict = refl

prepared-the_second_user : is_prepared sample (ask.Login None (Some 1) None None) ≡ true
prepared-the_second_user = refl

unprepared-a_third_user : is_prepared sample (ask.Login None (Some 2) None None) ≡ false
unprepared-a_third_user = refl

prepared-a_wrong_password : is_prepared sample (ask.Login None None None None) ≡ true
prepared-a_wrong_password = refl

prepared-a_grant : is_prepared sample (ask.Token (Ok grant)) ≡ true
prepared-a_grant = refl

unprepared-a_grant_of_no_client : is_prepared sample (ask.Token (Ok (record grant { client = 1 }))) ≡ false
unprepared-a_grant_of_no_client = refl

unprepared-want_of_memory : is_prepared sample (ask.Token (Err no.NoMemory)) ≡ false
unprepared-want_of_memory = refl

prepared-a_refused_grant : is_prepared sample (ask.Token (Err no.NoAuth)) ≡ true
prepared-a_refused_grant = refl

prepared-any_other : is_prepared sample ask.NotHere ≡ true
prepared-any_other = refl

-- ---- asks that hold values of their types

a_login_of_values : IsOpAsk (ask.Login (Some (word 6)) (Some 0) None None)
a_login_of_values = (record { long = refl; bytes = IsBytes-from_all_bytes (word 6) refl }, omega arith, tt, tt)

no_user_of_33_bits : IsOpAsk (ask.Login None (Some (2 ^ 32)) None None) → ⊥
no_user_of_33_bits h = let k : 2 ^ 32 < 2 ^ 32 = h.1 in absurd (omega (arith, k))

no_turn_of_no_bytes : IsOpAsk (ask.Login (Some []) None None None) → ⊥
no_turn_of_no_bytes h = let w : IsWord [] = h.0 in let k : ◌≡◌ {A = ℕ} 0 32 = w.long in absurd (omega (arith, k))

no_client_of_33_bits : IsOpAsk (ask.Authorize (verdict.Grant (record wish { client = 2 ^ 32 })) None None) → ⊥
no_client_of_33_bits h = let v : IsWishValue (record wish { client = 2 ^ 32 }) = h.0 in let k : 2 ^ 32 < 2 ^ 32 = v.client in absurd (omega (arith, k))

no_grant_of_33_bits : IsOpAsk (ask.Token (Ok (record grant { client = 2 ^ 32 }))) → ⊥
no_grant_of_33_bits h = let k : 2 ^ 32 < 2 ^ 32 = h.client in absurd (omega (arith, k))

no_name_outside_utf8 : IsOpAsk (ask.Token (Err (no.Twice (255 ∷ [])))) → ⊥
unfolding is_utf8 chars
no_name_outside_utf8 h = (let k : false ≡ true = is_utf8-from_IsUtf8 (255 ∷ []) h in cc)

no_refusal_outside_utf8 : IsOpAsk (ask.Authorize (verdict.Refuse (record refusal { redirect = 255 ∷ [] })) None None) → ⊥
unfolding is_utf8 chars
no_refusal_outside_utf8 h = (let k : false ≡ true = is_utf8-from_IsUtf8 (255 ∷ []) h.0.0 in cc)

no_browser_of_no_bytes : IsOpAsk (ask.Consent None true (Some []) None) → ⊥
no_browser_of_no_bytes h = let w : IsWord [] = h.1 in let k : ◌≡◌ {A = ℕ} 0 32 = w.long in absurd (omega (arith, k))

no_bearer_of_no_bytes : IsOpAsk (ask.Info (bearer.Given [])) → ⊥
no_bearer_of_no_bytes h = let k : ◌≡◌ {A = ℕ} 0 32 = h.long in absurd (omega (arith, k))

-- ---- replies

abbrev answer : Answer
answer = record { redirect = callback_uri; fragment = false; code = Some (word 4); access = None; id = None; state = None }

ends-at_an_answer : ends_turn (reply.Answered answer None) ≡ true
ends-at_an_answer = refl

ends-at_a_refusal : ends_turn (reply.Refused refusal None) ≡ true
ends-at_a_refusal = refl

ends_not-at_a_page : ends_turn (reply.ConsentPage (word 6) (word 5) (Some (word 9)) (codes "shop-client") profile_scopes) ≡ false
ends_not-at_a_page = refl

session-of_a_page : session_given (reply.ConsentPage (word 6) (word 5) (Some (word 9)) (codes "shop-client") profile_scopes) ≡ Some (word 9)
session-of_a_page = refl

session-of_an_answer : session_given (reply.Answered answer (Some (word 9))) ≡ Some (word 9)
session-of_an_answer = refl

session-of_a_refusal : session_given (reply.Refused refusal (Some (word 9))) ≡ Some (word 9)
session-of_a_refusal = refl

no_session-of_a_login_page : session_given (reply.LoginPage (word 6) (word 5) false) ≡ None
no_session-of_a_login_page = refl

code-of_an_answer : code_in (reply.Answered answer None) ≡ Some (word 4)
code-of_an_answer = refl

no_code-of_a_token_response : code_in (reply.Tokens (word 6) (codes "id")) ≡ None
no_code-of_a_token_response = refl

access-of_an_answer : access_in (reply.Answered (record answer { access = Some (word 6) }) None) ≡ Some (word 6)
access-of_an_answer = refl

access-of_a_token_response : access_in (reply.Tokens (word 6) (codes "id")) ≡ Some (word 6)
access-of_a_token_response = refl

no_access-of_a_page : access_in (reply.LoginPage (word 6) (word 5) false) ≡ None
no_access-of_a_page = refl
