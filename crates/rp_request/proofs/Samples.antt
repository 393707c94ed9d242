-- What is prepared, computed on requests of each kind, and that the premises of the laws are met.
use Rattle.std.proofs.Common.{◌≡◌, ℕ, [], ◌∷◌, ◌++◌, false, replicate, codes, Option, Some, None, unwrap_or, Ok, Err, refl, sym, ◌∙◌, arith}
use Rattle.url.proofs.OnLiterals.{url_on_literals}
use Rattle.sso_base.proofs.Spelling.{IsBytes-from_all_bytes}
use Rattle.registered_url.specs.Rule.{parts_of}
use Rattle.client_registry.specs.declared.records.Client.{Client}
use Rattle.client_registry.specs.Configuration.{Configuration}
use Rattle.client_registry.specs.Registered.{AllHoldClaims, IsClient, IsParty, FitsClient, IsRegistry}
use Rattle.request_params.specs.Form.{form_pairs}
use Rattle.request_params.specs.Reading.{has_name, StandsTwice}
use Rattle.sso_base.specs.Words.{Text}
use Rattle.sso_base.specs.declared.http.Method.{Method}
use Rattle.sso_base.specs.declared.http.Method.TheVariants.{Get, Post, Other}
use Rattle.sso_base.specs.declared.http.Ask.{Ask}
use Rattle.sso_base.specs.declared.message.Answered.{Answered}
use Rattle.claim_set.proofs.OnLiterals.{claims_on_literals}
use Rattle.jws_compact.specs.declared.sealing.Typ.TheVariants.{Jwt, LogoutJwt}
use Rattle.jws_compact.specs.declared.no.JwsNo.TheVariants as jws_no
use Rattle.jws_compact.specs.declared.unsealing.Unsealed.{Unsealed}
use Rattle.jws_compact.specs.Jws.{Opens, seal_text}
use Rattle.jws_compact.proofs.OnLiterals.{jws_on_literals}
use Rattle.client_keys.specs.Opening.{opening}
use Rattle.id_token.specs.declared.claims.IdClaims.{IdClaims}
use Rattle.id_token.specs.declared.no.IdNo.TheVariants as id_no
use Rattle.id_token.specs.Reading.{raw_in, whole, id_of, id_read}
use Rattle.id_token.proofs.Unsealed as id_sealed
use Rattle.auth_answer.specs.declared.heard.Heard.{Heard}
use Rattle.auth_answer.specs.declared.no.AnswerNo.TheVariants as answer_no
use Rattle.auth_answer.specs.Reading.{HasAnswer, RefusesAnswer}
use Rattle.auth_answer.proofs.OnLiterals.{auth_answer_on_literals}
use Rattle.token_endpoint.specs.declared.reading.Tokens.{Tokens}
use Rattle.token_endpoint.specs.declared.no.TokensNo.TheVariants as tokens_no
use Rattle.token_endpoint.specs.Answer.{HasTokens}
use Rattle.token_endpoint.proofs.OnLiterals.{token_endpoint_on_literals}
use Rattle.rp_exchange.specs.declared.ask.RpAsk.TheVariants as ask
use Rattle.rp_exchange.proofs.Sample.{word, shop_client, news_client, shop, news, sample, alice}
use Rattle.rp_request.specs.declared.routes.Endpoint.TheVariants as endpoint
use Rattle.userinfo.specs.declared.no.InfoNo.TheVariants as info_no
use Rattle.userinfo.specs.Answer.{info_read, IsUserInfo}
use Rattle.logout_token.specs.declared.claims.LogoutClaims.{LogoutClaims}
use Rattle.logout_token.specs.declared.no.LogoutNo.TheVariants as logout_no
use Rattle.logout_token.specs.LogoutToken as logout
use Rattle.logout_token.proofs.Unsealed as logout_sealed
use Rattle.rp_request.specs.Opened.{IsIdTokenFor, logout_read_for, IsLogoutTokenFor}
use Rattle.rp_request.specs.Prepared.{logout_token_in, prepared, tokens_prepared, info_prepared}
use Rattle.rp_request.specs.Requests.{IsTo, IsOpened, StandsAlone}
use Rattle.rp_request.proofs.Routing.{asked_to, page_wanted, page_asked, not_here_to_none}
use Rattle.rp_request.proofs.Callbacks.{has_answer, hears_answer, refuses_answer, answer_refuses, callback_opened}
use Rattle.rp_request.proofs.TokenAnswers.{has_tokens, tokens_opened}
use Rattle.rp_request.proofs.InfoAnswers.{has_info}
use Rattle.rp_request.proofs.Logouts.{logout_opened, logout_accepted, logout_reads}
use Rattle.rp_request.proofs.LogoutTokens.{one_token, no_token, several_tokens, empty_refused}

abbrev asked_by : Method → Text → Text → Option Text → Ask
asked_by method path query body =
    record { method = method; path = path; query = query; body = body; first = Some (word 5); second = Some (word 9); auth = None }

abbrev got : Text → Text → Ask
got path query = asked_by Get path query None

abbrev posted : Text → Text → Ask
posted path form = asked_by Post path [] (Some form)

-- ---- paths

login-got : prepared sample 0 (got (codes "/login") []) ≡ ask.Begin (Some (word 5))
unfolding prepared
login-got = refl

login-posted : prepared sample 0 (posted (codes "/login") []) ≡ ask.NotHere
unfolding prepared
login-posted = refl

home-got : prepared sample 0 (got (codes "/") []) ≡ ask.Visit (Some (word 9))
unfolding prepared
home-got = refl

leave-posted : prepared sample 0 (posted (codes "/leave") []) ≡ ask.Leave (Some (word 9))
unfolding prepared
leave-posted = refl

leave-got : prepared sample 0 (got (codes "/leave") []) ≡ ask.NotHere
unfolding prepared
leave-got = refl

-- a form without a logout token, and one with two
logout-posted : prepared sample 0 (posted (codes "/logout") []) ≡ ask.Logout (Err (logout_no.Jws jws_no.NotThreeParts))
unfolding prepared opening auth_answer_on_literals jws_on_literals logout.logout_read
logout-posted = refl

logout-with_two_tokens : logout_token_in (codes "logout_token=a&logout_token=a") ≡ []
unfolding auth_answer_on_literals
logout-with_two_tokens = refl

logout-with_one_token : logout_token_in (codes "other=b&logout_token=a") ≡ codes "a"
unfolding auth_answer_on_literals
logout-with_one_token = refl

-- the laws of the one logout token are met: one, none, two
logout_token-stands_alone : StandsAlone (codes "logout_token") (codes "a") (form_pairs (codes "other=b&logout_token=a"))
unfolding auth_answer_on_literals
logout_token-stands_alone = record { before = (codes "other", codes "b") ∷ []; after = []; cut = refl; none_before = refl; none_after = refl }

logout_token-stands_twice : StandsTwice (codes "logout_token") (form_pairs (codes "logout_token=a&other=b&logout_token=a"))
unfolding auth_answer_on_literals
logout_token-stands_twice = record { before = []; first = codes "a"; between = (codes "other", codes "b") ∷ []; second = codes "a"; after = []; cut = refl }

logout_token-is_the_one : logout_token_in (codes "other=b&logout_token=a") ≡ codes "a"
logout_token-is_the_one = one_token (codes "other=b&logout_token=a") (codes "a") logout_token-stands_alone

logout_token-is_none_of_two : logout_token_in (codes "logout_token=a&other=b&logout_token=a") ≡ []
logout_token-is_none_of_two = several_tokens (codes "logout_token=a&other=b&logout_token=a") logout_token-stands_twice

logout_token-stands_not_alone_twice : StandsAlone (codes "logout_token") (codes "a") (form_pairs (codes "logout_token=a&other=b&logout_token=a")) → ⊥
logout_token-stands_not_alone_twice alone =
    let one : codes "a" ≡ [] = sym (one_token (codes "logout_token=a&other=b&logout_token=a") (codes "a") alone) ∙ logout_token-is_none_of_two in
    cc

logout_token-stands_not_twice_alone : StandsTwice (codes "logout_token") (form_pairs (codes "other=b&logout_token=a")) → ⊥
logout_token-stands_not_twice_alone twice =
    let none : codes "a" ≡ [] = sym logout_token-is_the_one ∙ several_tokens (codes "other=b&logout_token=a") twice in
    cc

no_name : has_name (codes "logout_token") (form_pairs (codes "other=b")) ≡ false
unfolding auth_answer_on_literals
no_name = refl

logout_token-is_none_where_none_is : logout_token_in (codes "other=b") ≡ []
logout_token-is_none_where_none_is = no_token (codes "other=b") no_name

logout-at_a_client_without_one : prepared sample 1 (posted (codes "/logout") []) ≡ ask.NotHere
unfolding prepared
logout-at_a_client_without_one = refl

callback-by_another_method : prepared sample 0 (asked_by Other (codes "/cb") [] None) ≡ ask.NotHere
unfolding prepared
callback-by_another_method = refl

callback-at_nobody : prepared sample 2 (got (codes "/cb") []) ≡ ask.NotHere
unfolding prepared
callback-at_nobody = refl

-- ---- authorization responses

abbrev state : Text
state = codes "state=AAAAAAAAAAAAAAAAAAAAAAAAAAAAAAAAAAAAAAAAAAY"

abbrev nothing : Heard
nothing = record { state = None; error = None; code = None; access = None; id = None }

abbrev with_code : Ask
with_code = got (codes "/cb") (state ++ codes "&code=x")

abbrev heard_code : Heard
heard_code = record nothing { state = Some (word 6); code = Some (codes "x") }

callback-with_a_code : prepared sample 0 with_code ≡ ask.Callback (Ok heard_code) None (Some (word 5))
unfolding prepared auth_answer_on_literals
callback-with_a_code = refl

page-with_an_empty_query : prepared sample 1 (got (codes "/cb") []) ≡ ask.Fragment
unfolding prepared
page-with_an_empty_query = refl

-- a response type that answers in the query has no page
callback-with_an_empty_query : prepared sample 0 (got (codes "/cb") []) ≡ ask.Callback (Ok nothing) None (Some (word 5))
unfolding prepared auth_answer_on_literals
callback-with_an_empty_query = refl

callback-without_a_form : prepared sample 1 (asked_by Post (codes "/cb") state None) ≡ ask.Callback (Ok nothing) None (Some (word 5))
unfolding prepared auth_answer_on_literals
callback-without_a_form = refl

abbrev twice : Ask
twice = got (codes "/cb") (codes "code=x&state=&code=y")

callback-with_a_name_twice : prepared sample 0 twice ≡ ask.Callback (Err (answer_no.Twice (codes "code"))) None (Some (word 5))
unfolding prepared auth_answer_on_literals
callback-with_a_name_twice = refl

-- ---- ID Tokens

abbrev claims : Text
claims = codes "{\"aud\":\"shop-client\",\"exp\":1300,\"iat\":1000,\"iss\":\"http://127.0.0.1:8080\",\"sub\":\"alice\"}"

abbrev token_of : Text → Text
token_of secret = seal_text secret Jwt claims

abbrev with_token : Ask
with_token = posted (codes "/cb") (codes "id_token=" ++ token_of news_client.secret)

abbrev heard_token : Heard
heard_token = record nothing { id = Some (token_of news_client.secret) }

callback-with_an_id_token : prepared sample 1 with_token ≡ ask.Callback (Ok heard_token) (Some (Ok alice)) (Some (word 5))
unfolding prepared opening auth_answer_on_literals jws_on_literals claims_on_literals id_read id_of raw_in whole
callback-with_an_id_token = refl

callback-with_the_token_of_another_client : prepared sample 0 with_token ≡ ask.Callback (Ok heard_token) (Some (Err (id_no.Jws jws_no.BadMac))) (Some (word 5))
unfolding prepared opening auth_answer_on_literals jws_on_literals claims_on_literals id_read id_of raw_in whole
callback-with_the_token_of_another_client = refl

-- it is sealed under the secret of its client, and not under that of another
read-under_its_secret : id_read news_client.secret (token_of news_client.secret) ≡ Ok alice
unfolding jws_on_literals claims_on_literals id_read id_of raw_in whole
read-under_its_secret = refl

sealed-under_its_secret : (u : Unsealed) × Opens news_client.secret (token_of news_client.secret) u
sealed-under_its_secret = id_sealed.read_is_sealed news_client.secret (token_of news_client.secret) alice read-under_its_secret

refused-under_another_secret : id_read shop_client.secret (token_of news_client.secret) ≡ Err (id_no.Jws jws_no.BadMac)
unfolding jws_on_literals claims_on_literals id_read id_of raw_in whole
refused-under_another_secret = refl

not_sealed-under_another_secret : (u : Unsealed) → ¬ Opens shop_client.secret (token_of news_client.secret) u
not_sealed-under_another_secret = (id_sealed.unsealed_refused shop_client.secret (token_of news_client.secret)).0 (jws_no.BadMac, refused-under_another_secret)

-- a client whose secret is changed: a token under its old secret is read, and one under neither is not
abbrev changed_client : Client
changed_client = record news_client { secret = codes "another secret of the client"; old_secret = Some news_client.secret }

abbrev changed : Configuration
changed = record sample { clients = shop_client ∷ changed_client ∷ [] }

callback-with_a_token_under_the_old_secret : prepared changed 1 with_token ≡ ask.Callback (Ok heard_token) (Some (Ok alice)) (Some (word 5))
unfolding prepared opening auth_answer_on_literals jws_on_literals claims_on_literals id_read id_of raw_in whole
callback-with_a_token_under_the_old_secret = refl

abbrev with_another_token : Ask
with_another_token = posted (codes "/cb") (codes "id_token=" ++ token_of shop_client.secret)

abbrev heard_another_token : Heard
heard_another_token = record nothing { id = Some (token_of shop_client.secret) }

callback-with_a_token_under_neither_secret : prepared changed 1 with_another_token ≡ ask.Callback (Ok heard_another_token) (Some (Err (id_no.Jws jws_no.BadMac))) (Some (word 5))
unfolding prepared opening auth_answer_on_literals jws_on_literals claims_on_literals id_read id_of raw_in whole
callback-with_a_token_under_neither_secret = refl

-- ---- logout tokens

abbrev logout_claims : LogoutClaims
logout_claims =
    record { iss = codes "http://127.0.0.1:8080"; aud = codes "shop-client" ∷ []; iat = 1000; exp = 1120; jti = codes "j"; sub = Some (codes "alice"); sid = None }

abbrev logout_members : Text
logout_members =
    codes "{\"aud\":\"shop-client\",\"events\":{\"http://schemas.openid.net/event/backchannel-logout\":{}},\"exp\":1120,\"iat\":1000,\"iss\":\"http://127.0.0.1:8080\",\"jti\":\"j\",\"sub\":\"alice\"}"

abbrev logout_of : Text → Text
logout_of secret = seal_text secret LogoutJwt logout_members

abbrev with_logout : Text → Ask
with_logout secret = posted (codes "/logout") (codes "logout_token=" ++ logout_of secret)

logout-with_a_logout_token : prepared sample 0 (with_logout shop_client.secret) ≡ ask.Logout (Ok logout_claims)
unfolding prepared opening auth_answer_on_literals jws_on_literals claims_on_literals logout.logout_read logout.logout_of logout.raw_in logout.whole
logout-with_a_logout_token = refl

logout-with_the_token_of_another_client : prepared sample 0 (with_logout news_client.secret) ≡ ask.Logout (Err (logout_no.Jws jws_no.BadMac))
unfolding prepared opening auth_answer_on_literals jws_on_literals claims_on_literals logout.logout_read logout.logout_of logout.raw_in logout.whole
logout-with_the_token_of_another_client = refl

-- the empty text is refused as unsealed, and so is sealed under no secret
no_text-is_sealed : (secret : Text) (u : Unsealed) → ¬ Opens secret [] u
no_text-is_sealed secret = (logout_sealed.unsealed_refused secret []).0 (jws_no.NotThreeParts, empty_refused secret)

-- ---- token responses

abbrev answered : ℕ → Text → Answered
answered status body = record { status = status; body = body }

abbrev good : Answered
good = answered 200 (codes "{\"access_token\":\"a\",\"id_token\":\"x\",\"token_type\":\"Bearer\"}")

abbrev tokens : Tokens
tokens = record { access = codes "a"; id = codes "x" }

tokens-of_a_response : tokens_prepared sample 0 (word 7) good ≡ ask.Tokens (word 7) (Ok tokens) (Some (Err (id_no.Jws jws_no.NotThreeParts)))
unfolding tokens_prepared opening token_endpoint_on_literals jws_on_literals id_read
tokens-of_a_response = refl

tokens-of_a_refusal : tokens_prepared sample 0 (word 7) (answered 400 (codes "{\"error\":\"invalid_grant\"}")) ≡ ask.Tokens (word 7) (Err (tokens_no.Status 400)) None
unfolding tokens_prepared token_endpoint_on_literals
tokens-of_a_refusal = refl

-- ---- UserInfo responses

info-of_a_response : info_prepared (word 7) (answered 200 (codes "{\"sub\":\"alice\"}")) ≡ ask.Info (word 7) (Ok (codes "alice"))
unfolding info_prepared info_read claims_on_literals
info-of_a_response = refl

info-of_a_refusal : info_prepared (word 7) (answered 401 []) ≡ ask.Info (word 7) (Err (info_no.Status 401))
unfolding info_prepared info_read
info-of_a_refusal = refl

-- ---- what the laws speak of is met, and not met

a_page_is_wanted : IsTo sample 1 (got (codes "/cb") []) endpoint.Redirection
a_page_is_wanted = (page_wanted sample 1 (got (codes "/cb") []) page-with_an_empty_query).0

an_empty_text_is_no_logout_token : (x : LogoutClaims) → ¬ IsLogoutTokenFor shop_client [] x
unfolding auth_answer_on_literals
an_empty_text_is_no_logout_token = logout_opened sample 0 (posted (codes "/logout") []) (Err (logout_no.Jws jws_no.NotThreeParts)) logout-posted

a_response_is_of_alice : IsUserInfo (answered 200 (codes "{\"sub\":\"alice\"}")) (codes "alice")
a_response_is_of_alice = (has_info (word 7) (answered 200 (codes "{\"sub\":\"alice\"}")) (word 7) (codes "alice") info-of_a_response).1

a_callback_is_to : IsTo sample 0 with_code endpoint.Redirection
a_callback_is_to = asked_to sample 0 with_code endpoint.Redirection refl

a_posted_login_is_to_nothing : ¬ IsTo sample 0 (posted (codes "/login") []) endpoint.Login
a_posted_login_is_to_nothing = not_here_to_none sample 0 (posted (codes "/login") []) login-posted endpoint.Login

a_code_is_heard : HasAnswer with_code.query heard_code
a_code_is_heard = has_answer sample 0 with_code heard_code None (Some (word 5)) callback-with_a_code

a_name_is_repeated : RefusesAnswer twice.query (answer_no.Twice (codes "code"))
a_name_is_repeated = refuses_answer sample 0 twice (answer_no.Twice (codes "code")) None (Some (word 5)) callback-with_a_name_twice

a_token_is_one : IsIdTokenFor news_client (token_of news_client.secret) alice
a_token_is_one = callback_opened sample 1 with_token heard_token (Some (Ok alice)) (Some (word 5)) callback-with_an_id_token

it_is_none_of_another_client : (x : IdClaims) → ¬ IsIdTokenFor shop_client (token_of news_client.secret) x
it_is_none_of_another_client = callback_opened sample 0 with_token heard_token (Some (Err (id_no.Jws jws_no.BadMac))) (Some (word 5)) callback-with_the_token_of_another_client

nothing_is_read_of_nothing : ¬ IsOpened shop_client None (Some (Ok alice))
nothing_is_read_of_nothing = λ h. h

a_response_has_tokens : HasTokens good tokens
a_response_has_tokens = (has_tokens sample 0 (word 7) good (word 7) tokens (Some (Err (id_no.Jws jws_no.NotThreeParts))) tokens-of_a_response).1

it_is_one_of_the_changed_client : IsIdTokenFor changed_client (token_of news_client.secret) alice
it_is_one_of_the_changed_client = callback_opened changed 1 with_token heard_token (Some (Ok alice)) (Some (word 5)) callback-with_a_token_under_the_old_secret

its_token_is_none : (x : IdClaims) → ¬ IsIdTokenFor shop_client (codes "x") x
its_token_is_none = tokens_opened sample 0 (word 7) good (word 7) tokens (Some (Err (id_no.Jws jws_no.NotThreeParts))) tokens-of_a_response

its_logout_token_is_one : IsLogoutTokenFor shop_client (logout_of shop_client.secret) logout_claims
unfolding auth_answer_on_literals jws_on_literals
its_logout_token_is_one = logout_opened sample 0 (with_logout shop_client.secret) (Ok logout_claims) logout-with_a_logout_token

-- ---- the sample is a registry, so that the laws with this premise say something of it

shop_is_client : IsClient shop_client
unfolding url_on_literals parts_of
shop_is_client = record { id = refl; secret = refl; long_secret = omega arith; old_secret = tt; seals = refl; redirects = refl; types = refl; urls = refl; kept = refl; logout = refl; logout_kept = refl; one_host = refl }

news_is_client : IsClient news_client
unfolding url_on_literals parts_of
news_is_client = record { id = refl; secret = refl; long_secret = omega arith; old_secret = tt; seals = refl; redirects = refl; types = refl; urls = refl; kept = refl; logout = refl; logout_kept = refl; one_host = refl }

shop_is_party : IsParty shop
unfolding url_on_literals parts_of
shop_is_party = record { name = refl; listen = refl; redirect = refl; path = refl; names = refl; scope = refl; prompt = refl; age = refl; settings = record { workers = refl } }

news_is_party : IsParty news
unfolding url_on_literals parts_of
news_is_party = record { name = refl; listen = refl; redirect = refl; path = refl; names = refl; scope = refl; prompt = refl; age = refl; settings = record { workers = refl } }

shop_fits : FitsClient shop shop_client
shop_fits = record { redirect = refl; logout = refl; logout_of = record { server = refl; path = refl }; number = 0; types = refl; has_type = refl }

news_fits : FitsClient news news_client
news_fits = record { redirect = refl; logout = refl; logout_of = tt; number = 2; types = refl; has_type = refl }

no_claims : AllHoldClaims []
unfolding AllHoldClaims
no_claims = tt

sample_is_registry : IsRegistry sample
unfolding url_on_literals parts_of
sample_is_registry =
    record {
      users = omega arith;
      clients = omega arith;
      parties = omega arith;
      user_ids = tt;
      client_ids = (refl, (refl, tt));
      secrets = (refl, (refl, tt));
      redirects = (((refl, tt), tt), (tt, tt));
      issuer_apart = (refl, (refl, tt));
      party_names = (refl, (refl, tt));
      not_op = (refl, (refl, tt));
      known = (omega arith, (omega arith, tt));
      fitting = (shop_fits, (news_fits, tt));
      one_party = (refl, (refl, tt));
      rows = refl;
      subjects = ((refl, tt), ((refl, tt), tt));
      subject_rules = (tt, (tt, tt));
      salt = replicate 16 7;
      salted = record { within = refl; bytes = IsBytes-from_all_bytes (replicate 16 7) refl; made = refl };
      issuer = refl;
      issuer_url = record { query = refl; prefix = refl; secure = refl };
      short_issuer = omega arith;
      provider = refl;
      listen = refl;
      user_claims = no_claims;
      user_rules = tt;
      client_rules = (shop_is_client, (news_is_client, tt));
      party_rules = (shop_is_party, (news_is_party, tt));
      settings = record { issuer_https = refl; parties_https = refl; workers = refl };
    }

the_page_is_asked_for : prepared sample 1 (got (codes "/cb") []) ≡ ask.Fragment
the_page_is_asked_for = page_asked sample 1 (got (codes "/cb") []) sample_is_registry a_page_is_wanted refl

the_code_is_heard : prepared sample 0 with_code ≡ ask.Callback (Ok heard_code) None (Some (word 5))
the_code_is_heard = hears_answer sample 0 with_code heard_code sample_is_registry a_callback_is_to refl a_code_is_heard

a_repeated_name_is_to : IsTo sample 0 twice endpoint.Redirection
a_repeated_name_is_to = asked_to sample 0 twice endpoint.Redirection refl

a_repeated_name_is_refused : prepared sample 0 twice ≡ ask.Callback (Err (answer_no.Twice (codes "code"))) None (Some (word 5))
a_repeated_name_is_refused = answer_refuses sample 0 twice (answer_no.Twice (codes "code")) sample_is_registry a_repeated_name_is_to refl a_name_is_repeated

a_logout_is_to : (secret : Text) → IsTo sample 0 (with_logout secret) endpoint.Logout
a_logout_is_to secret = asked_to sample 0 (with_logout secret) endpoint.Logout refl

abbrev token_in : Ask → Text
token_in request = logout_token_in (unwrap_or request.body [])

the_logout_token_is_read : (secret : Text) → prepared sample 0 (with_logout secret) ≡ ask.Logout (logout_read_for shop_client (token_in (with_logout secret)))
the_logout_token_is_read secret = logout_reads sample 0 (with_logout secret) sample_is_registry (a_logout_is_to secret)

the_logout_token_is_accepted : prepared sample 0 (with_logout shop_client.secret) ≡ ask.Logout (Ok logout_claims)
unfolding auth_answer_on_literals jws_on_literals
the_logout_token_is_accepted =
    logout_accepted sample 0 (with_logout shop_client.secret) logout_claims sample_is_registry (a_logout_is_to shop_client.secret) its_logout_token_is_one
