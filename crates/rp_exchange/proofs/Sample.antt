-- A registry with two relying parties, one that exchanges a code and one that is answered in the fragment, to try the definitions on.
use Rattle.std.proofs.Common.{ℕ, true, false, [], ◌∷◌, Some, None, codes}
use Rattle.sso_base.specs.Words.{Text}
pub use Rattle.sso_base.proofs.SampleWords.{word, words}
use Rattle.serde_json.specs.Data.{no_members}
use Rattle.registered_url.specs.declared.web_url.WebUrl.{WebUrl}
use Rattle.client_registry.specs.declared.records.Client.{Client}
use Rattle.client_registry.specs.declared.records.Party.{Party}
use Rattle.oidc_words.specs.declared.response_types.Types.{Types}
use Rattle.client_registry.specs.Configuration.{Configuration}
pub use Rattle.client_registry.proofs.SampleRegistry.{op, only_code}
use Rattle.client_registry.specs.Records.{usual_settings, usual_party_settings}
use Rattle.id_token.specs.declared.claims.IdClaims.{IdClaims}

abbrev pub url_at : ℕ → Text → WebUrl
url_at port path = record { secure = false; host = codes "127.0.0.1"; port = port; path = path; query = None }

abbrev pub front : Types
front = record { code = false; id_token = true; token = true }

abbrev pub shop_client : Client
shop_client =
    record {
      id = codes "shop-client";
      secret = codes "shop-secret-shop-secret-shop-secret";
      old_secret = None;
      seals_old = false;
      redirects = codes "http://127.0.0.1:8081/cb" ∷ [];
      types = true ∷ false ∷ false ∷ false ∷ false ∷ false ∷ [];
      pairwise = false;
      asks_consent = true;
      logout = Some (codes "http://127.0.0.1:8081/logout");
      logout_session = true;
      redirect_urls = url_at 8081 (codes "/cb") ∷ [];
      logout_url = Some (url_at 8081 (codes "/logout"));
      title = [];
    }

abbrev pub news_client : Client
news_client =
    record {
      id = codes "news-client";
      secret = codes "news-secret-news-secret-news-secret";
      old_secret = None;
      seals_old = false;
      redirects = codes "http://127.0.0.1:8082/cb" ∷ [];
      types = false ∷ false ∷ true ∷ false ∷ false ∷ false ∷ [];
      pairwise = false;
      asks_consent = false;
      logout = None;
      logout_session = false;
      redirect_urls = url_at 8082 (codes "/cb") ∷ [];
      logout_url = None;
      title = [];
    }

abbrev pub shop : Party
shop =
    record {
      name = codes "shop";
      client = 0;
      redirect = codes "http://127.0.0.1:8081/cb";
      listen = codes "127.0.0.1:8081";
      types = only_code;
      scope = codes "openid profile";
      prompt = None;
      max_age = None;
      userinfo = false;
      signed = false;
      redirect_url = url_at 8081 (codes "/cb");
      settings = usual_party_settings;
    }

abbrev pub news : Party
news =
    record {
      name = codes "news";
      client = 1;
      redirect = codes "http://127.0.0.1:8082/cb";
      listen = codes "127.0.0.1:8082";
      types = front;
      scope = codes "openid";
      prompt = None;
      max_age = None;
      userinfo = false;
      signed = false;
      redirect_url = url_at 8082 (codes "/cb");
      settings = usual_party_settings;
    }

abbrev pub sample : Configuration
sample =
    record {
      provider = op;
      prefix = [];
      listen = codes "127.0.0.1:8080";
      secure = false;
      users = [];
      clients = shop_client ∷ news_client ∷ [];
      parties = shop ∷ news ∷ [];
      subjects = [] ∷ [] ∷ [];
      lasting = false;
      full_pages = false;
      title = [];
      settings = usual_settings;
    }

-- the claims of an ID Token of this provider for the first client
abbrev pub alice : IdClaims
alice =
    record {
      iss = codes "http://127.0.0.1:8080";
      sub = codes "alice";
      aud = codes "shop-client" ∷ [];
      azp = None;
      exp = 1300;
      iat = 1000;
      auth_time = None;
      nonce = None;
      sid = None;
      at_hash = None;
      c_hash = None;
      more = no_members;
    }
