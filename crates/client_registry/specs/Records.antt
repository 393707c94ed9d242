-- The values at the paths of a configuration, as records. If a path has no value that satisfies its rule, the record has an
-- empty one; such a configuration is rejected.
use Rattle.std.specs.Prelude.{ℕ, ◌==◌, ◌||◌, Bool, false, not, List, [], ◌∷◌, ◌++◌, length, nat_le, codes, replicate, map, Option, Some, None, option_and_then}
use Rattle.std.specs.Prelude.{unwrap_or, if◌then◌else◌}
use Rattle.std.specs.List.{position_from}
use Rattle.std.specs.Str.{bytes_eq}
use Rattle.serde_json.specs.Data as json
use Rattle.toml.specs.Data.{Data, get}
use Rattle.claim_set.specs.Reading.{claims_text}
use Rattle.registered_url.specs.declared.web_url.WebUrl.{WebUrl}
use Rattle.registered_url.specs.Rule.{url_of}
use Rattle.client_registry.specs.declared.records.Provider.{Provider}
use Rattle.client_registry.specs.declared.records.User.{User}
use Rattle.client_registry.specs.declared.records.Client.{Client}
use Rattle.client_registry.specs.declared.records.Party.{Party}
use Rattle.client_registry.specs.declared.records.Settings.{Settings}
use Rattle.client_registry.specs.declared.records.PartySettings.{PartySettings}
use Rattle.configuration_rows.specs.Values.{text_at, text_or, natural_at, flag_at, hex_at, texts_at, url_at, rows_at}
use Rattle.configuration_rows.specs.Claims.{claims_in}
use Rattle.oidc_words.specs.Paths.{authorize_path, token_path, userinfo_path}
use Rattle.oidc_words.specs.Scopes.{openid_word}
use Rattle.oidc_words.specs.Types.{code_word, types_of_number, type_number}
use Rattle.configuration_rows.specs.declared.version.Version.{Version}
use Rattle.configuration_rows.specs.declared.version.Version.TheVariants.{First, Second}
use Rattle.configuration_rows.specs.Versions.{version_in}
use Rattle.configuration_rows.specs.Rows.{seals_old, response_texts, has_type, host_cookies}

-- ---- the provider

-- a text without its last slash; a backslash counts as one, as in the URL Standard for http and https URLs
abbrev pub without_slash : List ℕ → List ℕ
without_slash [] = []
without_slash (x ∷ []) = if x == 47 || x == 92 then [] else x ∷ []
without_slash (x ∷ y ∷ t) = x ∷ without_slash (y ∷ t)

-- the endpoint at a path below an issuer (our choice)
abbrev pub endpoint : List ℕ → List ℕ → List ℕ
endpoint issuer path = without_slash issuer ++ path

-- the provider with this issuer
abbrev pub provider_of : List ℕ → Provider
provider_of issuer = record {
  issuer = issuer;
  authorize = endpoint issuer authorize_path;
  token = endpoint issuer token_path;
  userinfo = Some (endpoint issuer userinfo_path);
}

-- the histories last, in the second version
abbrev pub lasting_of : Version → Data → Bool
lasting_of First d = false
lasting_of Second d = bytes_eq (text_or (codes "history") [] d) (codes "lasting")

-- the pages of both roles are full, in the second version
abbrev pub full_pages_of : Version → Data → Bool
full_pages_of First d = false
full_pages_of Second d = bytes_eq (text_or (codes "pages") [] d) (codes "full")

abbrev pub no_url : WebUrl
no_url = record { secure = false; host = []; port = 0; path = []; query = None }

-- the URL at a key, or an empty one
abbrev pub url_or_none : List ℕ → Data → WebUrl
url_or_none key d = unwrap_or (url_at key d) no_url

-- the title of the provider on its pages; the host of its issuer if it states none, and in the first version
abbrev pub provider_title : Version → Data → List ℕ
provider_title First d = (url_or_none (codes "issuer") d).host
provider_title Second d = text_or (codes "title") (url_or_none (codes "issuer") d).host d

-- how many requests a server serves at the same time; 4 if its row gives no number, and in the first version
abbrev pub workers_in : Option ℕ → ℕ
workers_in None = 4
workers_in (Some n) = if nat_le n 64 then n else 4

abbrev pub workers_of : Version → Data → ℕ
workers_of First d = 4
workers_of Second d = workers_in (natural_at (codes "workers") d)

-- the settings of a configuration
abbrev pub settings_of : Version → Data → Settings
settings_of v d = record { host_cookies = host_cookies v d; workers = workers_of v d }

-- those of a configuration that gives none
abbrev pub usual_settings : Settings
usual_settings = record { host_cookies = false; workers = 4 }

-- the settings of a party, and those of a party that gives none
abbrev pub party_settings_of : Version → Data → PartySettings
party_settings_of v d = record { workers = workers_of v d }

abbrev pub usual_party_settings : PartySettings
usual_party_settings = record { workers = 4 }

-- ---- users

abbrev pub user_claims : Data → json.Members
user_claims d = unwrap_or (option_and_then claims_in (get (codes "claims") d)) json.no_members

abbrev pub rounds_of : Option ℕ → ℕ
rounds_of None = 0
rounds_of (Some n) = if nat_le n 1000000 then n else 0

abbrev pub proof_of : List ℕ → List ℕ
proof_of bytes = if length bytes == 32 then bytes else replicate 32 0

abbrev pub user_of : Data → User
user_of d = record {
  id = text_or (codes "id") [] d;
  salt = hex_at (codes "salt") d;
  rounds = rounds_of (natural_at (codes "rounds") d);
  proof = proof_of (hex_at (codes "proof") d);
  claims = claims_text (user_claims d);
}

-- ---- clients

abbrev pub types_of : List (List ℕ) → List Bool
types_of ts = has_type 0 ts ∷ has_type 1 ts ∷ has_type 2 ts ∷ has_type 3 ts ∷ has_type 4 ts ∷ has_type 5 ts ∷ []

abbrev pub urls_of : List (List ℕ) → List WebUrl
urls_of ts = map (λ t. unwrap_or (url_of t) no_url) ts

-- the old secret and which secret seals, in the second version
abbrev pub old_secret_of : Version → Data → Option (List ℕ)
old_secret_of First d = None
old_secret_of Second d = text_at (codes "old_secret") d

abbrev pub seals_old_of : Version → Data → Bool
seals_old_of First d = false
seals_old_of Second d = seals_old d

-- the title of a client on pages; its id if it states none, and in the first version
abbrev pub client_title : Version → Data → List ℕ
client_title First d = text_or (codes "id") [] d
client_title Second d = text_or (codes "title") (text_or (codes "id") [] d) d

abbrev pub client_of_row : Version → Data → Client
client_of_row v d = record {
  id = text_or (codes "id") [] d;
  secret = text_or (codes "secret") [] d;
  old_secret = old_secret_of v d;
  seals_old = seals_old_of v d;
  redirects = texts_at (codes "redirect_uris") d;
  types = types_of (response_texts d);
  pairwise = bytes_eq (text_or (codes "subject") [] d) (codes "pairwise");
  asks_consent = not (bytes_eq (text_or (codes "consent") [] d) (codes "given"));
  logout = text_at (codes "logout_uri") d;
  logout_session = flag_at (codes "logout_session") d;
  redirect_urls = urls_of (texts_at (codes "redirect_uris") d);
  logout_url = url_at (codes "logout_uri") d;
  title = client_title v d;
}

-- ---- parties

-- the index of the client with this id, counted from 0
abbrev pub client_place : List ℕ → List Client → Option ℕ
client_place id clients = position_from (λ (k : Client). bytes_eq k.id id) 0 clients

-- the same; the number of clients if there is none
abbrev pub client_number : List ℕ → List Client → ℕ
client_number id clients = unwrap_or (client_place id clients) (length clients)

unfoldable pub party_of : Version → List Client → Data → Party
party_of v clients d = record {
  name = text_or (codes "name") [] d;
  client = client_number (text_or (codes "client") [] d) clients;
  redirect = text_or (codes "redirect_uri") [] d;
  listen = text_or (codes "listen") [] d;
  types = types_of_number (type_number (text_or (codes "response_type") code_word d));
  scope = text_or (codes "scope") openid_word d;
  prompt = text_at (codes "prompt") d;
  max_age = natural_at (codes "max_age") d;
  userinfo = flag_at (codes "userinfo") d;
  signed = flag_at (codes "signed") d;
  redirect_url = url_or_none (codes "redirect_uri") d;
  settings = party_settings_of v d;
}

-- ---- all rows

abbrev pub users_of : Data → List User
users_of root = map user_of (rows_at (codes "user") root)

abbrev pub clients_of : Data → List Client
clients_of root = map (client_of_row (version_in root)) (rows_at (codes "client") root)

abbrev pub parties_of : Data → List Party
parties_of root = map (party_of (version_in root) (clients_of root)) (rows_at (codes "party") root)
