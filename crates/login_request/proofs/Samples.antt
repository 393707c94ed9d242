-- The requests of two parties of a small registry, by computation. Sealing stays closed.
use Rattle.std.proofs.Common.{◌≡◌, ◌++◌, true, false, [], ◌∷◌, replicate, codes, Some, None, Ok, refl, arith}
use Rattle.std.specs.Fmt.{digits}
use Rattle.json.proofs.Printed.Utf8.{IsUtf8-are_ascii}
use Rattle.url.proofs.OnLiterals.{url_on_literals}
use Rattle.registered_url.specs.declared.web_url.WebUrl.{WebUrl}
use Rattle.registered_url.specs.Rule.{parts_of}
use Rattle.sso_base.specs.Words.{Text, Word, IsWord, word_text}
use Rattle.sso_base.proofs.OnLiterals.{base64url_on_literals}
use Rattle.sso_base.proofs.SampleWords.{word}
use Rattle.sso_base.proofs.Spelling.{IsBytes-from_all_bytes}
use Rattle.oidc_words.specs.declared.response_types.Types.{Types}
use Rattle.client_registry.specs.declared.records.Client.{Client}
use Rattle.client_registry.specs.declared.records.Party.{Party}
use Rattle.client_registry.specs.declared.records.Provider.{Provider}
use Rattle.client_registry.specs.Configuration.{Configuration}
use Rattle.client_registry.specs.Numbers.{no_party, no_client, party_row, party_client}
use Rattle.client_registry.specs.Records.{provider_of, urls_of, usual_settings, usual_party_settings}
use Rattle.client_registry.specs.Registered.{AllHoldClaims, IsClient, IsParty, FitsClient, IsRegistry}
use Rattle.request_params.specs.Reading as form
use Rattle.request_params.specs.Printing.{request_form}
use Rattle.request_params.proofs.OnLiterals.{request_params_on_literals}
use Rattle.request_object.specs.Reading as object
use Rattle.request_object.specs.Request.{request_text}
use Rattle.login_request.specs.Parties.{MayAsk}
use Rattle.login_request.specs.Request.{login_params, outer_params, login_object, sent_params, login_location}
use Rattle.login_request.proofs.Asked.{plain_read, beside_read, object_read}
use Rattle.login_request.proofs.SignedEnds.{signed_ends}

-- ---- a registry with two clients and their parties, of which the second signs its requests

abbrev pub url_at : Text → WebUrl
url_at host = record { secure = true; host = host; port = 443; path = codes "/cb"; query = None }

abbrev pub code_alone : Types
code_alone = record { code = true; id_token = false; token = false }

abbrev pub code_and_id : Types
code_and_id = record { code = true; id_token = true; token = false }

abbrev pub shop : Client
shop =
    record {
      id = codes "shop";
      secret = codes "01234567890123456789012345678901";
      old_secret = None;
      seals_old = false;
      redirects = codes "https://a.b/cb" ∷ [];
      types = true ∷ false ∷ false ∷ false ∷ false ∷ false ∷ [];
      pairwise = false;
      asks_consent = false;
      logout = None;
      logout_session = false;
      redirect_urls = urls_of (codes "https://a.b/cb" ∷ []);
      logout_url = None;
      title = [];
    }

abbrev pub mail : Client
mail =
    record {
      id = codes "mail";
      secret = codes "12345678901234567890123456789012";
      old_secret = None;
      seals_old = false;
      redirects = codes "https://c.d/cb" ∷ [];
      types = false ∷ false ∷ false ∷ true ∷ false ∷ false ∷ [];
      pairwise = false;
      asks_consent = false;
      logout = None;
      logout_session = false;
      redirect_urls = urls_of (codes "https://c.d/cb" ∷ []);
      logout_url = None;
      title = [];
    }

abbrev pub shop_party : Party
shop_party =
    record {
      name = codes "shop";
      client = 0;
      redirect = codes "https://a.b/cb";
      listen = codes "a.b:443";
      types = code_alone;
      scope = codes "openid email";
      prompt = Some (codes "login consent");
      max_age = Some 10;
      userinfo = false;
      signed = false;
      redirect_url = url_at (codes "a.b");
      settings = usual_party_settings;
    }

abbrev pub mail_party : Party
mail_party =
    record {
      name = codes "mail";
      client = 1;
      redirect = codes "https://c.d/cb";
      listen = codes "c.d:443";
      types = code_and_id;
      scope = codes "openid";
      prompt = None;
      max_age = None;
      userinfo = false;
      signed = true;
      redirect_url = url_at (codes "c.d");
      settings = usual_party_settings;
    }

abbrev pub small : Configuration
small =
    record {
      provider = provider_of (codes "https://op");
      prefix = [];
      listen = codes "op:443";
      secure = true;
      users = [];
      clients = shop ∷ mail ∷ [];
      parties = shop_party ∷ mail_party ∷ [];
      subjects = [] ∷ [] ∷ [];
      lasting = false;
      full_pages = false;
      title = [];
      settings = usual_settings;
    }

shop_is_client : IsClient shop
unfolding url_on_literals parts_of
shop_is_client = record { id = refl; secret = refl; long_secret = omega arith; old_secret = tt; seals = refl; redirects = refl; types = refl; urls = refl; kept = refl; logout = refl; logout_kept = refl; one_host = refl }

mail_is_client : IsClient mail
unfolding url_on_literals parts_of
mail_is_client = record { id = refl; secret = refl; long_secret = omega arith; old_secret = tt; seals = refl; redirects = refl; types = refl; urls = refl; kept = refl; logout = refl; logout_kept = refl; one_host = refl }

shop_is_party : IsParty shop_party
unfolding url_on_literals parts_of
shop_is_party = record { name = refl; listen = refl; redirect = refl; path = refl; names = refl; scope = refl; prompt = refl; age = refl; settings = record { workers = refl } }

mail_is_party : IsParty mail_party
unfolding url_on_literals parts_of
mail_is_party = record { name = refl; listen = refl; redirect = refl; path = refl; names = refl; scope = refl; prompt = refl; age = refl; settings = record { workers = refl } }

shop_fits : FitsClient shop_party shop
shop_fits = record { redirect = refl; logout = refl; logout_of = tt; number = 0; types = refl; has_type = refl }

mail_fits : FitsClient mail_party mail
mail_fits = record { redirect = refl; logout = refl; logout_of = tt; number = 3; types = refl; has_type = refl }

no_claims : AllHoldClaims []
unfolding AllHoldClaims
no_claims = tt

small_registry : IsRegistry small
unfolding url_on_literals parts_of
small_registry =
    record {
      users = omega arith;
      clients = omega arith;
      parties = omega arith;
      user_ids = tt;
      client_ids = (refl, (refl, tt));
      secrets = (refl, (refl, tt));
      redirects = (((refl, tt), tt), (tt, tt));
      issuer_apart = (refl, (refl, tt));
      party_names = (refl, (refl, tt));
      not_op = (refl, (refl, tt));
      known = (omega arith, (omega arith, tt));
      fitting = (shop_fits, (mail_fits, tt));
      one_party = (refl, (refl, tt));
      rows = refl;
      subjects = ((refl, tt), ((refl, tt), tt));
      subject_rules = (tt, (tt, tt));
      salt = replicate 16 7;
      salted = record { within = refl; bytes = IsBytes-from_all_bytes (replicate 16 7) refl; made = refl };
      issuer = refl;
      issuer_url = record { query = refl; prefix = refl; secure = refl };
      short_issuer = omega arith;
      provider = refl;
      listen = refl;
      user_claims = no_claims;
      user_rules = tt;
      client_rules = (shop_is_client, (mail_is_client, tt));
      party_rules = (shop_is_party, (mail_is_party, tt));
      settings = record { issuer_https = refl; parties_https = refl; workers = refl };
    }

-- ---- rows

row-of_the_second : party_row small 1 ≡ mail_party
row-of_the_second = refl

row-of_no_party : party_row small 2 ≡ no_party
row-of_no_party = refl

client-of_the_second : party_client small 1 ≡ mail
client-of_the_second = refl

client-of_an_unknown_one : party_client (record small { clients = shop ∷ [] }) 1 ≡ no_client
client-of_an_unknown_one = refl

-- ---- for whom requests are made

abbrev pub issuer : Text
issuer = codes "https://op"

word_2 : IsWord (word 2)
word_2 = record { long = refl; bytes = IsBytes-from_all_bytes (word 2) refl }

word_3 : IsWord (word 3)
word_3 = record { long = refl; bytes = IsBytes-from_all_bytes (word 3) refl }

shop_may : MayAsk small 0 issuer (word 2) (word 3)
shop_may = record { registry = small_registry; party = omega arith; issuer_text = IsUtf8-are_ascii issuer refl; short_issuer = omega arith; state_word = word_2; nonce_word = word_3 }

pub mail_may : MayAsk small 1 issuer (word 2) (word 3)
mail_may = record { registry = small_registry; party = omega arith; issuer_text = IsUtf8-are_ascii issuer refl; short_issuer = omega arith; state_word = word_2; nonce_word = word_3 }

not_for_a_third_party : (state nonce : Word) → MayAsk small 2 issuer state nonce → ⊥
not_for_a_third_party state nonce h = absurd (omega (arith, h.party))

not_at_an_issuer_of_201_bytes : (state nonce : Word) → MayAsk small 0 (replicate 201 65) state nonce → ⊥
not_at_an_issuer_of_201_bytes state nonce h = absurd (omega (arith, h.short_issuer))

not_with_a_state_of_31_bytes : (nonce : Word) → MayAsk small 0 issuer (replicate 31 0) nonce → ⊥
not_with_a_state_of_31_bytes nonce h = absurd (omega (arith, h.state_word.long))

-- ---- response types

-- ---- parameters

params-of_shop : login_params shop shop_party (word 2) (word 3)
    ≡ record {
      response_type = Some (codes "code");
      client_id = Some (codes "shop");
      redirect_uri = Some (codes "https://a.b/cb");
      scope = Some (codes "openid email");
      state = Some (word_text (word 2));
      nonce = Some (word_text (word 3));
      response_mode = None;
      prompt = Some (codes "login consent");
      max_age = Some (codes "10");
      claims = None;
      request = None;
      request_uri = None;
      registration = None;
    }
unfolding digits
params-of_shop = refl

-- neither `state` nor `nonce`, and of the scope only `openid`
params-beside_an_object : outer_params shop shop_party (codes "x.y.z")
    ≡ record {
      response_type = Some (codes "code");
      client_id = Some (codes "shop");
      redirect_uri = Some (codes "https://a.b/cb");
      scope = Some (codes "openid");
      state = None;
      nonce = None;
      response_mode = None;
      prompt = None;
      max_age = None;
      claims = None;
      request = Some (codes "x.y.z");
      request_uri = None;
      registration = None;
    }
params-beside_an_object = refl

abbrev op : Provider
op = provider_of issuer

sent-as_they_are : sent_params shop shop_party op (word 2) (word 3) ≡ login_params shop shop_party (word 2) (word 3)
sent-as_they_are = refl

sent-signed : sent_params mail mail_party op (word 2) (word 3) ≡ outer_params mail mail_party (login_object mail mail_party issuer (word 2) (word 3))
sent-signed = refl

-- ---- locations

location-of_shop : login_location shop shop_party op (word 2) (word 3)
    ≡ codes "https://op/authorize?response_type=code&client_id=shop&redirect_uri=https%3A%2F%2Fa.b%2Fcb&scope=openid+email&state=AAAAAAAAAAAAAAAAAAAAAAAAAAAAAAAAAAAAAAAAAAI&nonce=AAAAAAAAAAAAAAAAAAAAAAAAAAAAAAAAAAAAAAAAAAM&prompt=login+consent&max_age=10"
unfolding login_location request_params_on_literals base64url_on_literals digits
location-of_shop = refl

-- ---- the laws, where their premises are met

read-as_sent : form.request_read (request_form (login_params shop shop_party (word 2) (word 3))) ≡ Ok (login_params shop shop_party (word 2) (word 3))
read-as_sent = plain_read small 0 op (word 2) (word 3) shop_may refl

read-beside : form.request_read (request_form (sent_params mail mail_party op (word 2) (word 3))) ≡ Ok (outer_params mail mail_party (request_text mail issuer (login_params mail mail_party (word 2) (word 3))))
read-beside = beside_read small 1 op (word 2) (word 3) mail_may refl

read-inside : object.request_read mail issuer (request_text mail issuer (login_params mail mail_party (word 2) (word 3))) ≡ Ok (login_params mail mail_party (word 2) (word 3))
read-inside = object_read small 1 op (word 2) (word 3) mail_may

location-of_mail : (front : Text) × (login_location mail mail_party op (word 2) (word 3) ≡ front ++ codes "&request=" ++ login_object mail mail_party issuer (word 2) (word 3))
location-of_mail = signed_ends small 1 op (word 2) (word 3) mail_may refl

-- an object is for its own nonce
object-has_the_nonce : login_object mail mail_party issuer (word 2) (word 3) ≡ request_text mail issuer (record (login_params mail mail_party (word 2) (word 7)) { nonce = Some (word_text (word 3)) })
object-has_the_nonce = refl
