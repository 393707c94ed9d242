-- The claims that are returned about a user (OpenID Connect Core 1.0, 5.1, 5.3.2, 5.4 and 5.5).
use Rattle.std.specs.Prelude.{ℕ, ◌&&◌, ◌||◌, Bool, List, codes, Option, Some, None, Result, Ok, Err, if◌then◌else◌}
use Rattle.serde_json.specs.Data.{string, Members, no_members, member, put}
use Rattle.claim_set.specs.declared.no.ClaimNo.{ClaimNo}
use Rattle.claim_set.specs.Reading.{claims_read}
use Rattle.client_registry.specs.declared.records.User.{User}
use Rattle.client_registry.specs.Configuration.{Configuration, subject_at}
use Rattle.client_registry.specs.Numbers.{user_at}
use Rattle.oidc_words.specs.declared.scopes.Scopes.{Scopes}
use Rattle.oidc_words.specs.Words.{is_one_of}
use Rattle.oidc_words.specs.Claims.{is_claim_of, is_standard_claim}

-- a claim is wanted: a scope value requests it, or it is a standard claim and requested by name
abbrev pub is_wanted : Scopes → List (List ℕ) → List ℕ → Bool
is_wanted scopes asked name = is_claim_of scopes name || (is_standard_claim name && is_one_of asked name)

-- the members whose names pass the test
abbrev pub members_with : (List ℕ → Bool) → Members → Members
members_with test no_members = no_members
members_with test (member k d ms) = if test k then member k d (members_with test ms) else members_with test ms

abbrev pub members_or_none : Result Members ClaimNo → Members
members_or_none (Ok ms) = ms
members_or_none (Err e) = no_members

-- the claims whose text the bytes are
unfoldable pub text_claims : List ℕ → Members
text_claims b = members_or_none (claims_read b)

abbrev pub claims_of : Option User → Members
claims_of None = no_members
claims_of (Some u) = text_claims u.claims

-- the claims of the user with this number
unfoldable pub user_claims : Configuration → ℕ → Members
user_claims c user = claims_of (user_at c user)

-- the user's wanted claims
unfoldable pub held_members : Configuration → ℕ → Scopes → List (List ℕ) → Members
held_members c user scopes asked = members_with (is_wanted scopes asked) (user_claims c user)

-- the UserInfo claims of a user for a client: the user's subject there, and the user's wanted claims
unfoldable pub info_members : Configuration → ℕ → ℕ → Scopes → List (List ℕ) → Members
info_members c client user scopes asked = put (codes "sub") (string (subject_at c client user)) (held_members c user scopes asked)
