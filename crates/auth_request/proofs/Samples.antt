-- The definitions computed on small cases: what each accepts, and what it refuses.
use Rattle.std.proofs.Common.{◌≡◌, ℕ, Bool, List, [], ◌∷◌, replicate, codes, true, false, Some, None, refl, sym, true≢false}
use Rattle.serde_json.specs.Data.{Data, null, boolean, number, unsigned, string, array, object, no_items, item, no_members, member}
use Rattle.serde_json.specs.Read.{read}
use Rattle.serde_json.proofs.OnLiterals.{serde_json_on_literals}
use Rattle.oidc_words.specs.Claims.{is_claim_of, profile_claims, email_claims, address_claims, phone_claims}
use Rattle.sso_base.specs.Refusals.{NoneHolds}
use Rattle.oidc_words.specs.Types.{spellings}
use Rattle.sso_base.specs.Texts.{has_text}
use Rattle.oidc_words.specs.Words.{parameter_words}
use Rattle.client_registry.specs.declared.records.Client.{Client}
use Rattle.client_registry.specs.Records.{provider_of, usual_settings}
use Rattle.client_registry.specs.Configuration.{Configuration}
use Rattle.request_params.specs.declared.params.Params.{Params}
use Rattle.auth_request.specs.declared.wish.Wish.{Wish}
use Rattle.oidc_words.specs.declared.errors.AuthError.{AuthError}
use Rattle.oidc_words.specs.declared.errors.AuthError.TheVariants.{InvalidRequest, UnauthorizedClient, UnsupportedResponseType, InvalidScope, InvalidRequestObject, RequestUriNotSupported, RegistrationNotSupported}
use Rattle.auth_request.specs.declared.wish.PageNo.TheVariants.{Client as NoClient, Redirect as NoRedirect}
use Rattle.auth_request.specs.declared.wish.Verdict.{Verdict}
use Rattle.auth_request.specs.declared.wish.Verdict.TheVariants.{Page, Refuse, Grant}
use Rattle.auth_request.specs.NamedSubjects.{names_subject}
use Rattle.auth_request.specs.ClaimsParameter.{is_claim_request, are_claim_requests, is_part, is_claims_request, standard_names, names_at, item_texts, value_texts, values_texts, subs_of, subs_in, nothing, claims_of}
use Rattle.auth_request.specs.Parameters.{type_of, age_in, age_of, asking_of}
use Rattle.auth_request.specs.Judgement.{client_number, redirect_of, may_ask, is_other_mode, is_bad_nonce, errors, wish_of, judgement}
use Rattle.auth_request.specs.Granted.{ClientsAreApart, IsRegistered, AnswersInFragment, IsWish, IsWishOf}
use Rattle.auth_request.proofs.Wishes.{wish_of_request, wish_keeps}
use Rattle.auth_request.proofs.AskedNames.{id_names}
use Rattle.auth_request.proofs.Judgements.{granted_there, granted_without_errors}

-- ---- the parameter `claims`

request-of_a_claim_by_null : is_claim_request null ≡ true
request-of_a_claim_by_null = refl

request-not_by_a_flag : is_claim_request (boolean true) ≡ false
request-not_by_a_flag = refl

requests-of_two_claims : are_claim_requests (member (codes "name") null (member (codes "sub") (object no_members) no_members)) ≡ true
requests-of_two_claims = refl

requests-not_with_a_text : are_claim_requests (member (codes "name") null (member (codes "sub") (string []) no_members)) ≡ false
requests-not_with_a_text = refl

part-that_is_absent : is_part None ≡ true
part-that_is_absent = refl

part-not_null : is_part (Some null) ≡ false
part-not_null = refl

claims_request-with_one_part : is_claims_request (object (member (codes "userinfo") (object no_members) no_members)) ≡ true
claims_request-with_one_part = refl

claims_request-not_with_an_array : is_claims_request (object (member (codes "id_token") (array no_items) no_members)) ≡ false
claims_request-not_with_an_array = refl

names-that_are_standard : standard_names (member (codes "admin") null (member (codes "email") null (member (codes "sub") null no_members))) ≡ codes "email" ∷ []
unfolding is_claim_of profile_claims email_claims address_claims phone_claims
names-that_are_standard = refl

names-at_no_member : names_at (codes "userinfo") (object no_members) ≡ []
names-at_no_member = refl

texts-among_items : item_texts (item (string (codes "a")) (item (number (unsigned 1)) (item (string (codes "b")) no_items))) ≡ codes "a" ∷ codes "b" ∷ []
texts-among_items = refl

texts-without_empty_ones : item_texts (item (string []) (item (string (codes "b")) no_items)) ≡ codes "b" ∷ []
texts-without_empty_ones = refl

names_subject-an_element_of_values : names_subject (codes "b") (object (member (codes "value") (string (codes "a")) (member (codes "values") (array (item (string (codes "b")) no_items)) no_members))) ≡ true
names_subject-an_element_of_values = refl

names_subject-no_other : names_subject (codes "c") (object (member (codes "value") (string (codes "a")) (member (codes "values") (array (item (string (codes "b")) no_items)) no_members))) ≡ false
names_subject-no_other = refl

texts-not_of_an_array_in_value : value_texts (object (member (codes "value") (array (item (string (codes "a")) no_items)) no_members)) ≡ []
texts-not_of_an_array_in_value = refl

texts-not_of_a_text_in_values : values_texts (object (member (codes "values") (string (codes "a")) no_members)) ≡ []
texts-not_of_a_text_in_values = refl

subs-of_both : subs_of (object (member (codes "value") (string (codes "a")) (member (codes "values") (array (item (string (codes "b")) no_items)) no_members))) ≡ Some (codes "a" ∷ codes "b" ∷ [])
subs-of_both = refl

subs-of_another_kind : subs_of (object (member (codes "value") null no_members)) ≡ Some []
subs-of_another_kind = refl

subs-of_neither : subs_of (object (member (codes "essential") (boolean true) no_members)) ≡ None
subs-of_neither = refl

subs-not_of_userinfo : subs_in (object (member (codes "userinfo") (object (member (codes "sub") (object (member (codes "value") (string (codes "a")) no_members)) no_members)) no_members)) ≡ None
subs-not_of_userinfo = refl

claims-of_a_text : claims_of (Some (codes "{\"id_token\":{\"sub\":{\"value\":\"a\"},\"email\":null},\"other\":1.5}")) ≡ record { fits = true; subs = Some (codes "a" ∷ []); id_asked = codes "email" ∷ []; info_asked = [] }
unfolding serde_json_on_literals claims_of is_claim_of profile_claims email_claims address_claims phone_claims
claims-of_a_text = refl

claims-not_of_an_array : claims_of (Some (codes "[]")) ≡ nothing false
unfolding serde_json_on_literals claims_of
claims-not_of_an_array = refl

claims-not_of_no_json : claims_of (Some (codes "{")) ≡ nothing false
unfolding serde_json_on_literals claims_of
claims-not_of_no_json = refl

claims-that_are_absent : claims_of None ≡ nothing true
unfolding claims_of
claims-that_are_absent = refl

abbrev email : Data
email = object (member (codes "id_token") (object (member (codes "email") null no_members)) no_members)

read-email : read (codes "{\"id_token\":{\"email\":null}}") ≡ Some email
unfolding serde_json_on_literals
read-email = refl

asked-email : has_text (codes "email") (claims_of (Some (codes "{\"id_token\":{\"email\":null}}"))).id_asked ≡ true
unfolding is_claim_of profile_claims email_claims address_claims phone_claims
asked-email = id_names (codes "{\"id_token\":{\"email\":null}}") email (codes "email") read-email refl

asked-not_another : has_text (codes "name") (claims_of (Some (codes "{\"id_token\":{\"email\":null}}"))).id_asked ≡ false
unfolding is_claim_of profile_claims email_claims address_claims phone_claims
asked-not_another = id_names (codes "{\"id_token\":{\"email\":null}}") email (codes "name") read-email refl

-- ---- parameters

type-of_words_in_any_order : type_of (Some (codes "token id_token")) ≡ Some 2
unfolding spellings
type-of_words_in_any_order = refl

type-not_token_alone : type_of (Some (codes "token")) ≡ None
unfolding spellings
type-not_token_alone = refl

type-not_with_two_spaces : type_of (Some (codes "code  token")) ≡ None
unfolding spellings
type-not_with_two_spaces = refl

age-of_nine_digits : age_in (codes "000000300") ≡ Some 300
age-of_nine_digits = refl

age-not_of_ten_digits : age_in (codes "0000000300") ≡ None
age-not_of_ten_digits = refl

age-not_of_nothing : age_in [] ≡ None
age-not_of_nothing = refl

age-not_with_a_sign : age_of (Some (codes "-1")) ≡ None
age-not_with_a_sign = refl

-- ---- conditions

-- a client of this id and these response types, with one redirection URI
abbrev client : List ℕ → List Bool → Client
client id types = record { id = id; secret = []; old_secret = None; seals_old = false; redirects = codes "https://a.b/cb" ∷ []; types = types; pairwise = false; asks_consent = true; logout = None; logout_session = false; redirect_urls = []; logout_url = None; title = [] }

abbrev shop : Client
shop = client (codes "shop") (true ∷ false ∷ false ∷ true ∷ false ∷ false ∷ [])

abbrev shops : Configuration
shops = record { provider = provider_of []; prefix = []; listen = []; secure = true; users = []; clients = shop ∷ []; parties = []; subjects = [] ∷ []; lasting = false; full_pages = false; title = []; settings = usual_settings }

-- a request of the shop client
abbrev good : Params
good = record {
  response_type = Some (codes "code");
  client_id = Some (codes "shop");
  redirect_uri = Some (codes "https://a.b/cb");
  scope = Some (codes "openid");
  state = Some (codes "s");
  nonce = None;
  response_mode = None;
  prompt = None;
  max_age = None;
  claims = None;
  request = None;
  request_uri = None;
  registration = None;
}

number-of_the_client : client_number shops good ≡ Some 0
number-of_the_client = refl

number-of_no_client : client_number shops (record good { client_id = Some (codes "sho") }) ≡ None
number-of_no_client = refl

redirect-that_is_own : redirect_of shop (Some (codes "https://a.b/cb")) ≡ Some (codes "https://a.b/cb")
redirect-that_is_own = refl

redirect-not_one_that_goes_on : redirect_of shop (Some (codes "https://a.b/cb/x")) ≡ None
redirect-not_one_that_goes_on = refl

may-ask_for_its_type : may_ask shop (Some 3) ≡ true
may-ask_for_its_type = refl

may-not_ask_for_another : may_ask shop (Some 1) ≡ false
may-not_ask_for_another = refl

mode-of_its_own : is_other_mode (Some 0) (Some (codes "query")) ≡ false
mode-of_its_own = refl

mode-of_another : is_other_mode (Some 1) (Some (codes "query")) ≡ true
mode-of_another = refl

nonce-missing_for_an_id_token : is_bad_nonce (Some 1) None ≡ true
nonce-missing_for_an_id_token = refl

nonce-not_needed_for_a_code : is_bad_nonce (Some 0) None ≡ false
nonce-not_needed_for_a_code = refl

nonce-of_255_bytes : is_bad_nonce (Some 0) (Some (replicate 255 110)) ≡ false
nonce-of_255_bytes = refl

nonce-of_256_bytes : is_bad_nonce (Some 0) (Some (replicate 256 110)) ≡ true
nonce-of_256_bytes = refl

-- ---- judgements, row by row

abbrev error : AuthError → Verdict
error code = Refuse (record { redirect = codes "https://a.b/cb"; fragment = false; state = Some (codes "s"); code = code })

abbrev good_wish : Wish
good_wish = record {
  client = 0;
  redirect = codes "https://a.b/cb";
  types = record { code = true; id_token = false; token = false };
  scopes = record { openid = true; profile = false; email = false; address = false; phone = false };
  state = Some (codes "s");
  nonce = None;
  none = false;
  login = false;
  consent = false;
  max_age = None;
  subs = None;
  id_asked = [];
  info_asked = [];
}

judged-good : judgement shops good false ≡ Grant good_wish
unfolding judgement errors asking_of parameter_words claims_of spellings
judged-good = refl

judged-without_a_client : judgement shops (record good { client_id = None }) false ≡ Page NoClient
unfolding judgement
judged-without_a_client = refl

judged-at_another_uri : judgement shops (record good { redirect_uri = Some (codes "https://a.b/c") }) false ≡ Page NoRedirect
unfolding judgement
judged-at_another_uri = refl

judged-with_a_request_uri : judgement shops (record good { request_uri = Some [] }) false ≡ error RequestUriNotSupported
unfolding judgement errors asking_of parameter_words claims_of spellings
judged-with_a_request_uri = refl

judged-with_a_registration : judgement shops (record good { registration = Some [] }) true ≡ error RegistrationNotSupported
unfolding judgement errors asking_of parameter_words claims_of spellings
judged-with_a_registration = refl

judged-with_a_refused_object : judgement shops good true ≡ error InvalidRequestObject
unfolding judgement errors asking_of parameter_words claims_of spellings
judged-with_a_refused_object = refl

judged-without_a_type : judgement shops (record good { response_type = None }) false ≡ error InvalidRequest
unfolding judgement errors asking_of parameter_words claims_of spellings
judged-without_a_type = refl

judged-of_an_unknown_type : judgement shops (record good { response_type = Some (codes "token") }) false ≡ error UnsupportedResponseType
unfolding judgement errors asking_of parameter_words claims_of spellings
judged-of_an_unknown_type = refl

judged-of_a_type_of_others : judgement shops (record good { response_type = Some (codes "id_token") }) false ≡ Refuse (record { redirect = codes "https://a.b/cb"; fragment = true; state = Some (codes "s"); code = UnauthorizedClient })
unfolding judgement errors asking_of parameter_words claims_of spellings
judged-of_a_type_of_others = refl

judged-of_another_mode : judgement shops (record good { response_mode = Some (codes "fragment") }) false ≡ error InvalidRequest
unfolding judgement errors asking_of parameter_words claims_of spellings
judged-of_another_mode = refl

judged-without_openid : judgement shops (record good { scope = Some (codes "profile") }) false ≡ error InvalidScope
unfolding judgement errors asking_of parameter_words claims_of spellings
judged-without_openid = refl

judged-without_a_nonce : judgement shops (record good { response_type = Some (codes "code id_token") }) false ≡ Refuse (record { redirect = codes "https://a.b/cb"; fragment = true; state = Some (codes "s"); code = InvalidRequest })
unfolding judgement errors asking_of parameter_words claims_of spellings
judged-without_a_nonce = refl

judged-with_none_and_another : judgement shops (record good { prompt = Some (codes "none x") }) false ≡ error InvalidRequest
unfolding judgement errors asking_of parameter_words claims_of spellings
judged-with_none_and_another = refl

judged-with_a_long_age : judgement shops (record good { max_age = Some (codes "1234567890") }) false ≡ error InvalidRequest
unfolding judgement errors asking_of parameter_words claims_of spellings
judged-with_a_long_age = refl

judged-with_other_claims : judgement shops (record good { claims = Some (codes "[]") }) false ≡ error InvalidRequest
unfolding judgement errors asking_of parameter_words claims_of spellings serde_json_on_literals
judged-with_other_claims = refl

-- ---- what judgements keep

registered-good : IsRegistered shops good 0 (codes "https://a.b/cb")
registered-good = granted_there shops good false good_wish judged-good

registered-not_another : IsRegistered shops (record good { redirect_uri = Some (codes "https://a.b/c") }) 0 (codes "https://a.b/cb") → ⊥
registered-not_another r = cc r.asked

in_fragment-id_token : AnswersInFragment (record good { response_type = Some (codes "id_token") })
unfolding spellings
in_fragment-id_token = record { text = codes "id_token"; asked = refl; known = refl; other = λ e. cc e }

in_fragment-not_code : AnswersInFragment good → ⊥
in_fragment-not_code a = let is : a.text ≡ codes "code" = cc a.asked in a.other is

is_wish-good : IsWish shops good_wish
is_wish-good = wish_keeps shops good false good_wish judged-good

is_wish-of_good : IsWishOf good good_wish
is_wish-of_good = wish_of_request shops good false good_wish judged-good

not_a_wish-without_openid : IsWish shops (record good_wish { scopes = record { openid = false; profile = false; email = false; address = false; phone = false } }) → ⊥
not_a_wish-without_openid w = true≢false (sym w.openid)

not_the_wish-of_another_state : IsWishOf (record good { state = None }) good_wish → ⊥
not_the_wish-of_another_state w = cc w.state

-- ---- a request that is granted by the law

apart-one_client : ClientsAreApart shops
apart-one_client = (refl, tt)

apart-not_one_id_twice : ClientsAreApart (record shops { clients = shop ∷ shop ∷ [] }) → ⊥
apart-not_one_id_twice h = true≢false h.0

none-holds_of_good : NoneHolds (errors shop good (asking_of good) false)
unfolding errors asking_of parameter_words claims_of spellings
none-holds_of_good = (refl, (refl, (refl, (refl, (refl, (refl, (refl, (refl, (refl, (refl, (refl, (refl, tt))))))))))))

none-holds_not_of_a_refused_object : NoneHolds (errors shop good (asking_of good) true) → ⊥
unfolding errors
none-holds_not_of_a_refused_object h = true≢false h.1.1.0

granted-by_the_law : judgement shops good false ≡ Grant (wish_of 0 (codes "https://a.b/cb") good (asking_of good))
granted-by_the_law = granted_without_errors shops good false 0 shop (codes "https://a.b/cb") apart-one_client registered-good refl none-holds_of_good
