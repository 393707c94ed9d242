-- The requests that a browser sends on its own: to begin a login at a party, to see there who is logged in, to leave the party,
-- and to sign out at the provider.
use Rattle.std.specs.Prelude.{ℕ, [], ◌++◌, None}
use Rattle.oidc_words.specs.Paths.{begin_path, home_path, leave_path, signout_path}
use Rattle.client_registry.specs.Configuration.{Configuration}
use Rattle.sso_places.specs.declared.types.Jar.{Jar}
use Rattle.sso_places.specs.declared.types.To.TheVariants as to
use Rattle.web_requests.specs.declared.sent.Sent.{Sent}
use Rattle.web_requests.specs.Sending.{got, posted, sent}

-- a login begins at the party with this number
abbrev pub login_begun : ℕ → ℕ → Jar → Sent
login_begun from n jar = sent from (to.Party n) (got begin_path [] jar)

-- the party's home page
abbrev pub party_visited : ℕ → ℕ → Jar → Sent
party_visited from n jar = sent from (to.Party n) (got home_path [] jar)

-- a user leaves the party
abbrev pub party_left : ℕ → ℕ → Jar → Sent
party_left from n jar = sent from (to.Party n) (posted leave_path None jar)

-- a user signs out at the provider
abbrev pub signed_out : Configuration → ℕ → Jar → Sent
signed_out c from jar = sent from to.Provider (posted (c.prefix ++ signout_path) None jar)
