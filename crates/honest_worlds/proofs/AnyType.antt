-- The registry of the samples with a party of any response type, with UserInfo or without: its client may have each of the six, and
-- asks for consent. What the party asks for is computed once, and that tokens may be issued for it.
use Rattle.std.proofs.Common.{◌≡◌, ◌||◌, ℕ, Bool, true, false, [], ◌∷◌, codes, Option, Some, None, slice_get, refl, ap, subst, arith}
use Rattle.std.specs.Prelude.{IfSome}
use Rattle.sso_base.specs.Words.{Word, IsWord, word_text, word_of_text}
use Rattle.sso_base.proofs.Utf8Bytes.{IsUtf8-are_ascii}
use Rattle.sso_base.proofs.WordTexts.{word_of_text-word_text}
use Rattle.hmac256.specs.Hmac.{proof_of, iterates_of, iterate_of}
use Rattle.hmac256.proofs.OnLiterals.{hmac_on_literals}
use Rattle.oidc_words.specs.declared.response_types.Types.{Types}
use Rattle.oidc_words.specs.Types.{types_of_number}
use Rattle.oidc_words.specs.Words.{parameter_words}
use Rattle.registered_url.specs.declared.web_url.WebUrl.{WebUrl}
use Rattle.registered_url.specs.Rule.{url_of}
use Rattle.client_registry.specs.declared.records.Client.{Client}
use Rattle.client_registry.specs.declared.records.Party.{Party}
use Rattle.client_registry.specs.Configuration.{Configuration}
use Rattle.client_registry.specs.Registered.{IsClient, IsParty, FitsClient, IsIssuerUrl, IsRegistry}
use Rattle.auth_request.specs.declared.wish.Wish.{Wish}
use Rattle.auth_request.specs.ClaimsParameter.{claims_of}
use Rattle.auth_request.specs.Parameters.{asking_of}
use Rattle.auth_request.specs.Values.{IsWishValue}
use Rattle.op_issue.specs.IdTokens.{id_claims}
use Rattle.op_issue.specs.Issuing.{MayIssue}
use Rattle.op_exchange.proofs.Sample.{wish}
use Rattle.op_request.specs.Prepared.{signed_user}
use Rattle.op_answer.proofs.FirstLogin.{signed_alice}
use Rattle.rp_exchange.specs.Values.{IsIdValue}
use Rattle.rp_answer.proofs.Sample.{word, shop_client, news_client, shop, news}
use Rattle.sso_places.proofs.SmallSite.{configuration, registry, drawn_word}
use Rattle.honest_places.specs.Login.{Visitor, wants_none, MayLogIn}
use Rattle.honest_places.specs.OwnWish.{own_wish}
use Rattle.honest_places.proofs.OwnWish.{own_types_are}
use Rattle.honest_places.proofs.OwnWishValue.{own_wish_value, own_wish_issued}
use Rattle.honest_worlds.proofs.ClaimValues.{claims_value}

-- ---- the party

-- what it wants: a response type, which has a code or an ID Token, and UserInfo or not
pub record Wants : Type 0 where
  pub code : Bool
  pub id : Bool
  pub token : Bool
  pub info : Bool
  pub some : (code || id) ≡ true

-- with a code or without one
abbrev pub with_code : Bool → Bool → Bool → Wants
with_code id token info = record { code = true; id = id; token = token; info = info; some = refl }

abbrev pub without_code : Bool → Bool → Wants
without_code token info = record { code = false; id = true; token = token; info = info; some = refl }

abbrev pub wanted : Bool → Bool → Bool → Types
wanted code id token = record { code = code; id_token = id; token = token }

abbrev pub types_of : Wants → Types
types_of wants = wanted wants.code wants.id wants.token

abbrev pub asker : Wants → Party
asker wants = record shop { types = types_of wants; userinfo = wants.info }

abbrev pub every_type : Client
every_type = record shop_client { types = true ∷ true ∷ true ∷ true ∷ true ∷ true ∷ [] }

abbrev pub registered : Wants → Configuration
registered wants = record configuration { clients = every_type ∷ news_client ∷ []; parties = asker wants ∷ news ∷ [] }

-- ---- the registry

client_rules : IsClient every_type
client_rules =
    let s : IsClient shop_client = registry.client_rules.0 in
    record {
      id = s.id;
      secret = s.secret;
      long_secret = s.long_secret;
      old_secret = s.old_secret;
      seals = s.seals;
      redirects = s.redirects;
      types = refl;
      urls = s.urls;
      kept = s.kept;
      logout = s.logout;
      logout_kept = s.logout_kept;
      one_host = s.one_host;
    }

numbered : (code id token : Bool) → (code || id) ≡ true → (number : ℕ) × (wanted code id token ≡ types_of_number (Some number)) × (slice_get every_type.types number ≡ Some true)
numbered true false false some = (0, refl, refl)
numbered false true false some = (1, refl, refl)
numbered false true true some = (2, refl, refl)
numbered true true false some = (3, refl, refl)
numbered true false true some = (4, refl, refl)
numbered true true true some = (5, refl, refl)
numbered false false token some = absurd (cc)

module _ (wants : Wants) where
  party_rules : IsParty (asker wants)
  party_rules =
      let s : IsParty shop = registry.party_rules.0 in
      record { name = s.name; listen = s.listen; redirect = s.redirect; path = s.path; names = s.names; scope = s.scope; prompt = s.prompt; age = s.age; settings = s.settings }

  fits : FitsClient (asker wants) every_type
  fits =
      let n = numbered wants.code wants.id wants.token wants.some in
      record { redirect = refl; logout = refl; logout_of = record { server = refl; path = refl }; number = n.0; types = n.1; has_type = n.2 }

  same_issuer : (o : Option WebUrl) → IfSome o (IsIssuerUrl configuration) → IfSome o (IsIssuerUrl (registered wants))
  same_issuer None h = tt
  same_issuer (Some url) h = record { query = h.query; prefix = h.prefix; secure = h.secure }

  pub is_registry : IsRegistry (registered wants)
  is_registry =
      let s : IsRegistry configuration = registry in
      record {
        users = s.users;
        clients = s.clients;
        parties = s.parties;
        user_ids = s.user_ids;
        client_ids = s.client_ids;
        secrets = s.secrets;
        redirects = s.redirects;
        issuer_apart = s.issuer_apart;
        party_names = s.party_names;
        not_op = s.not_op;
        known = s.known;
        fitting = (fits, s.fitting.1);
        one_party = s.one_party;
        rows = s.rows;
        subjects = s.subjects;
        subject_rules = s.subject_rules;
        salt = s.salt;
        salted = record { within = s.salted.within; bytes = s.salted.bytes; made = s.salted.made };
        issuer = s.issuer;
        issuer_url = same_issuer (url_of configuration.provider.issuer) s.issuer_url;
        short_issuer = s.short_issuer;
        provider = s.provider;
        listen = s.listen;
        user_claims = s.user_claims;
        user_rules = s.user_rules;
        client_rules = (client_rules, s.client_rules.1);
        party_rules = (party_rules, s.party_rules.1);
        settings = record { issuer_https = refl; parties_https = refl; workers = refl };
      }

-- ---- the visitor

abbrev pub visitor : Visitor
visitor = record { browser = 1; party = 0; user = 0; id = codes "alice"; password = codes "password" }

module _ (wants : Wants) where
  pub right_password : signed_user (registered wants) visitor.id visitor.password ≡ Some 0
  unfolding hmac_on_literals proof_of iterates_of iterate_of
  right_password = refl

  pub silent : wants_none (registered wants) 0 ≡ false
  unfolding parameter_words
  silent = refl

  pub may_log_in : MayLogIn (registered wants) visitor
  may_log_in = record {
    party = omega arith;
    may_ask = λ kept. silent;
    id_text = IsUtf8-are_ascii visitor.id refl;
    password_text = IsUtf8-are_ascii visitor.password refl;
    right = λ kept. right_password;
  }

-- ---- words

pub word_2 : IsWord (word 2)
word_2 = drawn_word (word 2) refl refl

pub word_3 : IsWord (word 3)
word_3 = drawn_word (word 3) refl refl

pub word_10 : IsWord (word 10)
word_10 = drawn_word (word 10) refl refl

pub code_is : word_of_text (word_text (word 15)) ≡ Some (word 15)
code_is = word_of_text-word_text (word 15) (drawn_word (word 15) refl refl)

-- ---- the wish of its login

module _ (wants : Wants) where
  abbrev c : Configuration
  c = registered wants

  abbrev pub ours : Wish
  ours = record wish { types = types_of wants; state = Some (word_text (word 2)); nonce = Some (word_text (word 3)) }

  pub ours_is : own_wish c 0 (word 2) (word 3) ≡ ours
  unfolding asking_of claims_of parameter_words
  ours_is = ap (λ t. record ours { types = t }) (own_types_are c 0 (word 2) (word 3) (is_registry wants) (omega arith))

  pub ours_value : IsWishValue ours
  ours_value = subst IsWishValue ours_is (own_wish_value c 0 (is_registry wants) (omega arith) (word 2) (word 3) word_2 word_3)

  pub may_issue : MayIssue c ours signed_alice 1000
  may_issue =
      subst (λ w. MayIssue c w signed_alice 1000) ours_is
      (own_wish_issued c 0 (is_registry wants) (omega arith) (word 2) (word 3) word_2 word_3 signed_alice 1000 (omega arith) word_10 (omega arith) (omega arith))

  -- the claims of its ID Tokens are values of their types
  pub claims_are_values : (access for : Option Word) → IsIdValue (id_claims c ours signed_alice 1000 access for)
  claims_are_values access for = claims_value c ours access for may_issue ours_value refl
