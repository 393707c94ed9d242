-- A small registry with one user and one client, and the login of that user, to try the definitions on.
use Rattle.std.proofs.Common.{◌≡◌, true, false, [], ◌∷◌, replicate, codes, Some, None, refl, arith}
use Rattle.json.specs.Print.{escape_byte}
use Rattle.json.proofs.Printed.Utf8.{IsUtf8-are_ascii}
use Rattle.serde_json.specs.Data.{string, Members, no_members, member}
use Rattle.url.proofs.OnLiterals.{url_on_literals}
use Rattle.sso_base.specs.Words.{Text, IsWord}
pub use Rattle.sso_base.proofs.SampleWords.{word, words}
use Rattle.sso_base.proofs.Spelling.{IsBytes-from_all_bytes}
use Rattle.claim_set.specs.Fitting.{ClaimsFit}
use Rattle.claim_set.specs.Reading.{claims_text}
use Rattle.claim_set.proofs.Fitting.{ClaimsFit-none, ClaimsFit-put}
use Rattle.registered_url.specs.Rule.{parts_of, url_of}
use Rattle.client_registry.specs.declared.records.User.{User}
use Rattle.client_registry.specs.declared.records.Client.{Client}
use Rattle.oidc_words.specs.declared.scopes.Scopes.{Scopes}
use Rattle.client_registry.specs.Configuration.{Configuration}
use Rattle.client_registry.specs.Records.{provider_of, urls_of, usual_settings}
use Rattle.client_registry.specs.Registered.{HoldsClaims, AllHoldClaims, IsUser, IsClient, IsRegistry}
use Rattle.client_registry.specs.ClaimKinds.{AreKnown}
use Rattle.client_registry.proofs.KnownClaims.{known_put, known_none}
use Rattle.client_registry.proofs.SubjectFacts.{user_id_is_subject}
use Rattle.oidc_words.specs.Claims.{is_claim_of, profile_claims, email_claims, address_claims, phone_claims, flag_claims, seconds_claims}
use Rattle.op_issue.specs.declared.issuing.Authentication.{Authentication}

abbrev pub profile_scopes : Scopes
profile_scopes = record { openid = true; profile = true; email = false; address = false; phone = false }

-- ---- one user, who has a name, and one client

abbrev pub named : Members
named = member (codes "name") (string (codes "Alice")) no_members

abbrev pub alice : User
alice = record { id = codes "alice"; salt = codes "salt"; rounds = 1; proof = replicate 32 0; claims = codes "{\"name\":\"Alice\"}" }

abbrev pub secret : Text
secret = codes "01234567890123456789012345678901"

abbrev pub shop : Client
shop =
    record {
      id = codes "shop";
      secret = secret;
      old_secret = None;
      seals_old = false;
      redirects = codes "https://a.b/cb" ∷ [];
      types = true ∷ true ∷ true ∷ false ∷ false ∷ false ∷ [];
      pairwise = false;
      asks_consent = false;
      logout = Some (codes "https://a.b/out");
      logout_session = true;
      redirect_urls = urls_of (codes "https://a.b/cb" ∷ []);
      logout_url = url_of (codes "https://a.b/out");
      title = [];
    }

abbrev pub small : Configuration
small =
    record {
      provider = provider_of (codes "https://a.b");
      prefix = [];
      listen = codes "a.b:443";
      secure = true;
      users = alice ∷ [];
      clients = shop ∷ [];
      parties = [];
      subjects = (codes "alice" ∷ []) ∷ [];
      lasting = false;
      full_pages = false;
      title = [];
      settings = usual_settings;
    }

pub named_fit : ClaimsFit named
named_fit =
    ClaimsFit-put (codes "name") (string (codes "Alice")) no_members (IsUtf8-are_ascii (codes "name") refl) (IsUtf8-are_ascii (codes "Alice") refl) (omega arith) ClaimsFit-none

pub alice_is_written : alice.claims ≡ claims_text named
unfolding escape_byte
alice_is_written = refl

pub named_is_known : AreKnown named
unfolding is_claim_of profile_claims email_claims address_claims phone_claims flag_claims seconds_claims
named_is_known = known_put (codes "name") (string (codes "Alice")) no_members refl known_none

abbrev pub alice_text : HoldsClaims alice.claims
alice_text = record { claims = named; fits = named_fit; known = named_is_known; text = alice_is_written }

alice_holds : AllHoldClaims (alice ∷ [])
unfolding AllHoldClaims
alice_holds = (alice_text, tt)

alice_is_user : IsUser alice
alice_is_user = record { id = refl; salt = refl; salt_bytes = IsBytes-from_all_bytes (codes "salt") refl; rounds = refl; proof = refl; proof_bytes = IsBytes-from_all_bytes (replicate 32 0) refl; claims = omega arith }

shop_is_client : IsClient shop
unfolding url_on_literals parts_of
shop_is_client = record { id = refl; secret = refl; long_secret = omega arith; old_secret = tt; seals = refl; redirects = refl; types = refl; urls = refl; kept = refl; logout = refl; logout_kept = refl; one_host = refl }

pub small_registry : IsRegistry small
unfolding url_on_literals parts_of
small_registry =
    record {
      users = omega arith;
      clients = omega arith;
      parties = omega arith;
      user_ids = (refl, tt);
      client_ids = (refl, tt);
      secrets = (refl, tt);
      redirects = (tt, tt);
      issuer_apart = (refl, tt);
      party_names = tt;
      not_op = tt;
      known = tt;
      fitting = tt;
      one_party = tt;
      rows = refl;
      subjects = ((refl, (refl, tt)), tt);
      subject_rules = ((user_id_is_subject (codes "alice") refl, tt), tt);
      salt = replicate 16 7;
      salted = record { within = refl; bytes = IsBytes-from_all_bytes (replicate 16 7) refl; made = refl };
      issuer = refl;
      issuer_url = record { query = refl; prefix = refl; secure = refl };
      short_issuer = omega arith;
      provider = refl;
      listen = refl;
      user_claims = alice_holds;
      user_rules = (alice_is_user, tt);
      client_rules = (shop_is_client, tt);
      party_rules = tt;
      settings = record { issuer_https = refl; parties_https = refl; workers = refl };
    }

-- ---- a user who logged in

abbrev pub signed : Authentication
signed = record { user = 0; sid = word 10; auth_time = 900 }

pub word_10 : IsWord (word 10)
word_10 = record { long = refl; bytes = IsBytes-from_all_bytes (word 10) refl }
