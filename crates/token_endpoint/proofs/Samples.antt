-- The definitions computed on small cases: what each accepts, and what it refuses.
use Rattle.std.proofs.Common.{◌≡◌, ℕ, List, [], ◌∷◌, true, false, codes, Option, Some, None, Result, Ok, Err, Bool, ◌⊎◌, inl, inr, refl, sym, ap, ◌∙◌, true≢false}
use Rattle.std.specs.Str.{bytes_eq}
use Rattle.serde_json.specs.Data.{string, Members, no_members, member}
use Rattle.sso_base.specs.Words.{Text}
use Rattle.sso_base.specs.Refusals.{first_refusal}
use Rattle.sso_base.specs.declared.message.Answered.{Answered}
use Rattle.claim_set.specs.declared.no.ClaimNo.TheVariants as claims
use Rattle.client_registry.specs.declared.records.Client.{Client}
use Rattle.client_registry.specs.Configuration.{Configuration}
use Rattle.client_registry.specs.Records.{usual_settings}
use Rattle.request_params.specs.Form.{Pair, form_pairs}
use Rattle.token_endpoint.specs.declared.basic.Credentials.{Credentials}
use Rattle.token_endpoint.specs.declared.granting.Grant.{Grant}
use Rattle.token_endpoint.specs.declared.no.GrantNo.{GrantNo}
use Rattle.token_endpoint.specs.declared.no.GrantNo.TheVariants.{BadForm, Twice, TwoAuths, NoAuth, WrongClient, OtherGrant, Missing}
use Rattle.token_endpoint.specs.declared.no.TokensNo.{TokensNo}
use Rattle.token_endpoint.specs.declared.no.TokensNo.TheVariants.{Status, Claims, Missing as Lacks, NotBearer}
use Rattle.token_endpoint.specs.declared.reading.Tokens.{Tokens}
use Rattle.token_endpoint.specs.declared.error.TokenError.TheVariants.{InvalidRequest, InvalidClient, InvalidGrant}
use Rattle.token_endpoint.specs.Base64.{b64, unb64}
use Rattle.token_endpoint.specs.Basic.{basic_header, basic_read, basic_auth, IsBasic}
use Rattle.token_endpoint.specs.Authentication.{client_with, client_read}
use Rattle.token_endpoint.specs.Request.{grant_refusals, grant_read, token_message}
use Rattle.token_endpoint.specs.Granted.{Authenticates, IsGrant, IsFirstAbsent, CauseIn, Cause}
use Rattle.token_endpoint.specs.Errors.{token_error, error_text}
use Rattle.token_endpoint.specs.Answer.{tokens_text, tokens_read, HasTokens, token_refusals}
use Rattle.token_endpoint.proofs.OnLiterals.{token_endpoint_on_literals}
use Rattle.token_endpoint.proofs.Headers.{basic_is_read, read_is_basic}
use Rattle.token_endpoint.proofs.Authenticating.{IdsDiffer, client_is, is_client}
use Rattle.token_endpoint.proofs.Requests.{granted, is_granted}
use Rattle.token_endpoint.proofs.Refused.{caused}
use Rattle.token_endpoint.proofs.Responses.{read_has, has_read}

-- ---- a client of the id `a` with the secret `s:`

abbrev client_a : Client
client_a = record {
  id = codes "a";
  secret = codes "s:";
  old_secret = None;
  seals_old = false;
  redirects = [];
  types = [];
  pairwise = false;
  asks_consent = true;
  logout = None;
  logout_session = false;
  redirect_urls = [];
  logout_url = None;
  title = [];
}

abbrev here : Configuration
here = record {
  provider = record { issuer = []; authorize = []; token = []; userinfo = None };
  prefix = [];
  listen = [];
  secure = true;
  users = [];
  clients = client_a ∷ [];
  parties = [];
  subjects = [] ∷ [];
  lasting = false;
  full_pages = false;
  title = [];
  settings = usual_settings;
}

abbrev shown : Text → Text → Credentials
shown id secret = record { id = id; secret = secret }

abbrev nothing : {A : Type 0} → Option A
nothing = None

-- ---- base64 and headers

b64-of_four_bytes : b64 (codes "a:s%") ≡ codes "YTpzJQ=="
unfolding token_endpoint_on_literals
b64-of_four_bytes = refl

unb64-of_its_text : unb64 (codes "YTpzJQ==") ≡ Some (codes "a:s%")
unfolding token_endpoint_on_literals
unb64-of_its_text = refl

unb64-without_padding : unb64 (codes "YTpzJQ") ≡ nothing
unfolding token_endpoint_on_literals
unb64-without_padding = refl

unb64-with_a_loose_bit : unb64 (codes "YTpzJR==") ≡ nothing
unfolding token_endpoint_on_literals
unb64-with_a_loose_bit = refl

header-in_any_case : basic_header (Some (codes "bASIC x")) ≡ Some (codes "bASIC x")
header-in_any_case = refl

header-of_another_scheme : basic_header (Some (codes "Bearer x")) ≡ nothing
header-of_another_scheme = refl

header-of_the_scheme_alone : (basic_header (Some (codes "Basic")) ≡ Some (codes "Basic")) × (basic_read (codes "Basic") ≡ nothing)
unfolding token_endpoint_on_literals
header-of_the_scheme_alone = (refl, refl)

auth-of_a_client : basic_auth client_a ≡ codes "Basic YTpzJTNB"
unfolding token_endpoint_on_literals
auth-of_a_client = refl

read-of_a_client : basic_read (codes "Basic YTpzJTNB") ≡ Some (shown (codes "a") (codes "s:"))
unfolding token_endpoint_on_literals
read-of_a_client = refl

read-with_two_spaces : basic_read (codes "Basic  YTpzJTNB") ≡ nothing
unfolding token_endpoint_on_literals
read-with_two_spaces = refl

is_basic-of_a_client : IsBasic (codes "Basic YTpzJTNB") (shown (codes "a") (codes "s:"))
is_basic-of_a_client = read_is_basic (codes "Basic YTpzJTNB") (shown (codes "a") (codes "s:")) refl read-of_a_client

abbrev is_secret : Text → Option Credentials → Bool
is_secret secret None = false
is_secret secret (Some k) = bytes_eq secret k.secret

is_basic-not_with_another_secret : IsBasic (codes "Basic YTpzJTNB") (shown (codes "a") (codes "s")) → ⊥
is_basic-not_with_another_secret basic =
    true≢false (ap (is_secret (codes "s:")) (sym read-of_a_client ∙ basic_is_read (codes "Basic YTpzJTNB") (shown (codes "a") (codes "s")) basic))

-- ---- clients

with-its_secret : client_with here (shown (codes "a") (codes "s:")) ≡ Some 0
with-its_secret = refl

-- the same client with an old secret
abbrev changing : Configuration
changing = record here { clients = (record client_a { old_secret = Some (codes "old") }) ∷ [] }

with-its_old_secret : client_with changing (shown (codes "a") (codes "old")) ≡ Some 0
with-its_old_secret = refl

with-its_secret_beside_the_old : client_with changing (shown (codes "a") (codes "s:")) ≡ Some 0
with-its_secret_beside_the_old = refl

with-neither : client_with changing (shown (codes "a") (codes "x")) ≡ nothing
with-neither = refl

with-another_secret : client_with here (shown (codes "a") (codes "s")) ≡ nothing
with-another_secret = refl

with-another_id : client_with here (shown (codes "b") (codes "s:")) ≡ nothing
with-another_id = refl

-- ---- requests

abbrev granted_a : Result Grant GrantNo
granted_a = Ok (record { client = 0; code = codes "c"; redirect = codes "u" })

abbrev no : GrantNo → Result Grant GrantNo
no e = Err e

abbrev by_basic : Option (List ℕ)
by_basic = Some (codes "Basic YTpzJTNB")

abbrev asks : List ℕ
asks = codes "grant_type=authorization_code&code=c&redirect_uri=u"

request-by_basic : grant_read here by_basic (Some asks) ≡ granted_a
unfolding token_endpoint_on_literals
request-by_basic = refl

request-by_parameters : grant_read here None (Some (codes "client_id=a&client_secret=s%3a&grant_type=authorization_code&code=c&redirect_uri=u")) ≡ granted_a
unfolding token_endpoint_on_literals
request-by_parameters = refl

request-is_a_grant : IsGrant here by_basic (Some asks) (record { client = 0; code = codes "c"; redirect = codes "u" })
request-is_a_grant = granted here by_basic (Some asks) _ request-by_basic

abbrev is_answer : {A E : Type 0} → Result A E → Bool
is_answer (Ok a) = true
is_answer (Err e) = false

one_id : IdsDiffer here
one_id = (refl, tt)

request-without_a_body : grant_read here by_basic None ≡ no BadForm
unfolding token_endpoint_on_literals
request-without_a_body = refl

request-with_a_name_twice : grant_read here by_basic (Some (codes "x=&client_secret=s&x=")) ≡ no (Twice (codes "x"))
unfolding token_endpoint_on_literals
request-with_a_name_twice = refl

request-in_two_ways : grant_read here by_basic (Some (codes "client_secret=")) ≡ no TwoAuths
unfolding token_endpoint_on_literals
request-in_two_ways = refl

request-in_no_way : grant_read here None (Some asks) ≡ no NoAuth
unfolding token_endpoint_on_literals
request-in_no_way = refl

request-is_no_grant_unshown : IsGrant here None (Some asks) (record { client = 0; code = codes "c"; redirect = codes "u" }) → ⊥
request-is_no_grant_unshown grant = true≢false (ap is_answer (sym (is_granted here None (Some asks) _ one_id grant) ∙ request-in_no_way))

request-of_another_client : grant_read here by_basic (Some (codes "client_id=b")) ≡ no WrongClient
unfolding token_endpoint_on_literals
request-of_another_client = refl

request-for_another_grant : grant_read here by_basic (Some (codes "grant_type=")) ≡ no OtherGrant
unfolding token_endpoint_on_literals
request-for_another_grant = refl

request-without_a_code : grant_read here by_basic (Some (codes "grant_type=authorization_code&redirect_uri=u")) ≡ no (Missing (codes "code"))
unfolding token_endpoint_on_literals
request-without_a_code = refl

refusals-of_a_grant : first_refusal (grant_refusals here by_basic (form_pairs asks)) ≡ Ok tt
unfolding token_endpoint_on_literals
refusals-of_a_grant = refl

refusals-in_no_way : first_refusal (grant_refusals here None (form_pairs asks)) ≡ Err NoAuth
unfolding token_endpoint_on_literals
refusals-in_no_way = refl

-- ---- who is authenticated, and the causes of refusals

abbrev nobody : GrantNo → Result ℕ GrantNo
nobody e = Err e

client-by_basic : client_read here by_basic [] ≡ Ok 0
unfolding token_endpoint_on_literals
client-by_basic = refl

client-in_no_way : client_read here None [] ≡ nobody NoAuth
unfolding token_endpoint_on_literals
client-in_no_way = refl

authenticates-by_basic : Authenticates here by_basic [] 0
authenticates-by_basic = (client_is here by_basic [] 0 client-by_basic).1

authenticates-nobody_unshown : Authenticates here None [] 0 → ⊥
authenticates-nobody_unshown shows = true≢false (ap is_answer (sym (is_client here None [] 0 tt one_id shows) ∙ client-in_no_way))

cause-without_a_body : Cause here by_basic None BadForm
cause-without_a_body = refl

cause-with_a_body_is_another : Cause here by_basic (Some asks) BadForm → ⊥
cause-with_a_body_is_another cause = cause

cause_in-two_ways : CauseIn here by_basic (form_pairs (codes "client_secret=")) TwoAuths
cause_in-two_ways = caused here by_basic (Some (codes "client_secret=")) TwoAuths one_id request-in_two_ways

no_header : (header : List ℕ) → nothing ≡ Some header → ⊥
no_header header h = absurd (cc)

cause_in-not_two_ways_without_a_header : (ps : List Pair) → CauseIn here None ps TwoAuths → ⊥
cause_in-not_two_ways_without_a_header ps cause = no_header cause.0.0 cause.0.1

first_absent-after_the_type : IsFirstAbsent (form_pairs (codes "grant_type=authorization_code&redirect_uri=u")) (codes "code")
first_absent-after_the_type =
    caused here by_basic (Some (codes "grant_type=authorization_code&redirect_uri=u")) (Missing (codes "code")) one_id request-without_a_code

absent_first : (codes "code" ≡ codes "grant_type") ⊎ (((codes "code" ≡ codes "code") × (((value : Text) → ⊥ → ⊥) → ⊥)) ⊎ ((codes "code" ≡ codes "redirect_uri") × (((value : Text) → ⊥ → ⊥) → ⊥) × (((value : Text) → ⊥ → ⊥) → ⊥))) → ⊥
absent_first (inl same) = true≢false (ap (bytes_eq (codes "code")) same)
absent_first (inr (inl other)) = other.1 (λ value. λ has. has)
absent_first (inr (inr other)) = true≢false (ap (bytes_eq (codes "code")) other.0)

first_absent-not_before_the_type : IsFirstAbsent [] (codes "code") → ⊥
first_absent-not_before_the_type absent = absent_first absent.1

message-of_a_client : token_message client_a (codes "http://127.0.0.1/token") (codes "c") (codes "u") ≡ record { to = codes "http://127.0.0.1/token"; auth = by_basic; body = Some asks }
unfolding token_endpoint_on_literals
message-of_a_client = refl

error-of_no_client : token_error WrongClient ≡ InvalidClient
error-of_no_client = refl

error-of_no_form : token_error BadForm ≡ InvalidRequest
error-of_no_form = refl

-- ---- answers

abbrev lacks : TokensNo → Result Tokens TokensNo
lacks e = Err e

abbrev answer : ℕ → Text → Answered
answer status body = record { status = status; body = body }

abbrev good : Text
good = codes "{\"access_token\":\"a\",\"id_token\":\"i\",\"token_type\":\"bEARER\"}"

answer-with_tokens : tokens_read (answer 200 good) ≡ Ok (record { access = codes "a"; id = codes "i" })
unfolding token_endpoint_on_literals
answer-with_tokens = refl

has-tokens : HasTokens (answer 200 good) (record { access = codes "a"; id = codes "i" })
has-tokens = read_has (answer 200 good) _ answer-with_tokens

answer-of_another_status : tokens_read (answer 400 good) ≡ lacks (Status 400)
unfolding token_endpoint_on_literals
answer-of_another_status = refl

has-no_tokens_at_another_status : HasTokens (answer 400 good) (record { access = codes "a"; id = codes "i" }) → ⊥
has-no_tokens_at_another_status has = true≢false (ap is_answer (sym (has_read (answer 400 good) _ has) ∙ answer-of_another_status))

abbrev two_tokens : Members → Members
two_tokens ms = member (codes "access_token") (string (codes "a")) (member (codes "id_token") (string (codes "i")) ms)

refusals-of_tokens : first_refusal (token_refusals (two_tokens (member (codes "token_type") (string (codes "bEARER")) no_members))) ≡ Ok tt
refusals-of_tokens = refl

refusals-without_a_type : first_refusal (token_refusals (two_tokens no_members)) ≡ Err (Lacks (codes "token_type"))
refusals-without_a_type = refl

answer-that_is_no_json : tokens_read (answer 200 []) ≡ lacks (Claims claims.NotJson)
unfolding token_endpoint_on_literals
answer-that_is_no_json = refl

answer-of_another_kind : tokens_read (answer 200 (codes "{\"id_token\":1,\"token_type\":2}")) ≡ lacks (Claims (claims.WrongKind (codes "id_token")))
unfolding token_endpoint_on_literals
answer-of_another_kind = refl

answer-without_a_type : tokens_read (answer 200 (codes "{\"access_token\":\"a\"}")) ≡ lacks (Lacks (codes "token_type"))
unfolding token_endpoint_on_literals
answer-without_a_type = refl

answer-of_another_type : tokens_read (answer 200 (codes "{\"access_token\":\"a\",\"id_token\":\"i\",\"token_type\":\"mac\"}")) ≡ lacks NotBearer
unfolding token_endpoint_on_literals
answer-of_another_type = refl

text-of_tokens : tokens_text (codes "a") (codes "i") ≡ codes "{\"access_token\":\"a\",\"expires_in\":3600,\"id_token\":\"i\",\"token_type\":\"Bearer\"}"
unfolding token_endpoint_on_literals
text-of_tokens = refl

text-of_an_error : error_text InvalidGrant ≡ codes "{\"error\":\"invalid_grant\"}"
unfolding token_endpoint_on_literals
text-of_an_error = refl

text-of_a_malformed_request : error_text InvalidRequest ≡ codes "{\"error\":\"invalid_request\"}"
unfolding token_endpoint_on_literals
text-of_a_malformed_request = refl
