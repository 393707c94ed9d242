-- Lookup by number: users, clients and parties are numbered from 0, in the order of the file. For an unknown number the result
-- is empty.
use Rattle.std.specs.Prelude.{ℕ, Bool, false, nat_lt, List, [], length, Option, Some, None, unwrap_or, slice_get}
use Rattle.client_registry.specs.declared.records.User.{User}
use Rattle.client_registry.specs.declared.records.Client.{Client}
use Rattle.client_registry.specs.declared.records.Party.{Party}
use Rattle.client_registry.specs.Records.{no_url, usual_party_settings}
use Rattle.client_registry.specs.Secrets.{sealing}
use Rattle.oidc_words.specs.Types.{types_of_number}
use Rattle.client_registry.specs.Configuration.{Configuration}

-- the user, the client and the party with a number
abbrev pub user_at : Configuration → ℕ → Option User
user_at c n = slice_get c.users n

abbrev pub client_at : Configuration → ℕ → Option Client
client_at c n = slice_get c.clients n

abbrev pub party_at : Configuration → ℕ → Option Party
party_at c n = slice_get c.parties n

-- there is a user, or a client, with this number
abbrev pub is_user : Configuration → ℕ → Bool
is_user c n = nat_lt n (length c.users)

abbrev pub is_client : Configuration → ℕ → Bool
is_client c n = nat_lt n (length c.clients)

-- ---- a client

abbrev pub id_in : Option Client → List ℕ
id_in None = []
id_in (Some client) = client.id

abbrev pub client_id : Configuration → ℕ → List ℕ
client_id c n = id_in (client_at c n)

-- the secret under which tokens are sealed for the client
abbrev pub sealing_in : Option Client → List ℕ
sealing_in None = []
sealing_in (Some client) = sealing client

abbrev pub client_sealing : Configuration → ℕ → List ℕ
client_sealing c n = sealing_in (client_at c n)

-- ---- a party

abbrev pub name_in : Option Party → List ℕ
name_in None = []
name_in (Some party) = party.name

abbrev pub party_name : Configuration → ℕ → List ℕ
party_name c n = name_in (party_at c n)

-- the client of a party
abbrev pub client_of : Configuration → Party → Option Client
client_of c party = client_at c party.client

-- ---- rows, with an empty default for an unknown number

abbrev pub no_client : Client
no_client = record {
  id = [];
  secret = [];
  old_secret = None;
  seals_old = false;
  redirects = [];
  types = [];
  pairwise = false;
  asks_consent = false;
  logout = None;
  logout_session = false;
  redirect_urls = [];
  logout_url = None;
  title = [];
}

abbrev pub no_party : Party
no_party = record {
  name = [];
  client = 0;
  redirect = [];
  listen = [];
  types = types_of_number None;
  scope = [];
  prompt = None;
  max_age = None;
  userinfo = false;
  signed = false;
  redirect_url = no_url;
  settings = usual_party_settings;
}

abbrev pub party_row : Configuration → ℕ → Party
party_row c n = unwrap_or (party_at c n) no_party

-- the row of the client of the party with a number
abbrev pub party_client : Configuration → ℕ → Client
party_client c n = unwrap_or (client_of c (party_row c n)) no_client
