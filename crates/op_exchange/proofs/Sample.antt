-- A registry with two users and one client that asks for consent, to try the definitions on.
use Rattle.std.proofs.Common.{true, false, [], ◌∷◌, Some, None, codes}
use Rattle.sso_base.specs.Words.{Text}
pub use Rattle.sso_base.proofs.SampleWords.{word, words}
use Rattle.client_registry.specs.declared.records.User.{User}
use Rattle.client_registry.specs.declared.records.Client.{Client}
use Rattle.client_registry.specs.Configuration.{Configuration}
pub use Rattle.client_registry.proofs.SampleRegistry.{op, only_code}
use Rattle.client_registry.specs.Records.{usual_settings}
use Rattle.oidc_words.specs.declared.scopes.Scopes.{Scopes}
use Rattle.auth_request.specs.declared.wish.Wish.{Wish}

abbrev pub callback_uri : Text
callback_uri = codes "http://127.0.0.1:8081/cb"

abbrev pub alice : User
alice = record { id = codes "alice"; salt = []; rounds = 1; proof = []; claims = codes "{}" }

abbrev pub bob : User
bob = record { id = codes "bob"; salt = []; rounds = 1; proof = []; claims = codes "{}" }

abbrev pub shop_client : Client
shop_client =
    record {
      id = codes "shop-client";
      secret = codes "shop-secret-shop-secret-shop-secret";
      old_secret = None;
      seals_old = false;
      redirects = callback_uri ∷ [];
      types = true ∷ false ∷ false ∷ false ∷ false ∷ false ∷ [];
      pairwise = false;
      asks_consent = true;
      logout = Some (codes "http://127.0.0.1:8081/logout");
      logout_session = true;
      redirect_urls = [];
      logout_url = None;
      title = [];
    }

abbrev pub sample : Configuration
sample =
    record {
      provider = op;
      prefix = [];
      listen = codes "127.0.0.1:8080";
      secure = false;
      users = alice ∷ bob ∷ [];
      clients = shop_client ∷ [];
      parties = [];
      subjects = (codes "alice" ∷ codes "bob" ∷ []) ∷ [];
      lasting = false;
      full_pages = false;
      title = [];
      settings = usual_settings;
    }

abbrev pub profile_scopes : Scopes
profile_scopes = record { openid = true; profile = true; email = false; address = false; phone = false }

abbrev pub wish : Wish
wish =
    record {
      client = 0;
      redirect = callback_uri;
      types = only_code;
      scopes = profile_scopes;
      state = Some (codes "state");
      nonce = Some (codes "nonce");
      none = false;
      login = false;
      consent = false;
      max_age = None;
      subs = None;
      id_asked = [];
      info_asked = [];
    }
