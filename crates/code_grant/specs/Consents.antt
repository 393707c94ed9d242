-- The scopes that users have granted to clients (OpenID Connect Core 1.0, 3.1.2.4). Users are numbered below 512 and clients
-- below 128. The list has an element for each client, user by user.
use Rattle.std.specs.Prelude.{ℕ, ◌+◌, ◌*◌, List, replicate, slice_index_or}
use Rattle.std.specs.List.{slice_set}
use Rattle.oidc_words.specs.declared.scopes.Scopes.{Scopes}
use Rattle.oidc_words.specs.Scopes.{no_scopes, joined}

unfoldable pub no_consents : List Scopes
no_consents = replicate 65536 no_scopes

-- the scopes that the user has granted to the client
unfoldable pub granted_to : ℕ → ℕ → List Scopes → Scopes
granted_to user client consents = slice_index_or consents (user * 128 + client) no_scopes

-- the scopes after these are added to those that the user has granted to the client
unfoldable pub with_grant : ℕ → ℕ → Scopes → List Scopes → List Scopes
with_grant user client scopes consents =
    slice_set consents (user * 128 + client) (joined (slice_index_or consents (user * 128 + client) no_scopes) scopes)
