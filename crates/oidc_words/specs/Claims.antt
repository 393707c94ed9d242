-- Standard claims: which scope values request them, and the kinds of their values (OpenID Connect Core 1.0, 5.1 and 5.4).
use Rattle.std.specs.Prelude.{Bool, false, ◌&&◌, ◌||◌, List, [], ◌∷◌, codes, Option, Some, None, if◌then◌else◌}
use Rattle.sso_base.specs.Words.{Text}
use Rattle.oidc_words.specs.declared.claims.ClaimKind.{ClaimKind}
use Rattle.oidc_words.specs.declared.claims.ClaimKind.TheVariants.{Text as TextKind, Flag, Seconds, Address}
use Rattle.oidc_words.specs.declared.scopes.Scopes.{Scopes}
use Rattle.oidc_words.specs.Words.{is_one_of}
use Rattle.oidc_words.specs.Scopes.{no_scopes, all_scopes, joined}

-- ---- the claims of the scope values (Core 5.4)

unfoldable pub profile_claims : List Text
profile_claims =
    codes "name" ∷ codes "family_name" ∷ codes "given_name" ∷ codes "middle_name" ∷ codes "nickname" ∷ codes "preferred_username"
    ∷ codes "profile" ∷ codes "picture" ∷ codes "website" ∷ codes "gender" ∷ codes "birthdate" ∷ codes "zoneinfo" ∷ codes "locale"
    ∷ codes "updated_at" ∷ []

unfoldable pub email_claims : List Text
email_claims = codes "email" ∷ codes "email_verified" ∷ []

unfoldable pub address_claims : List Text
address_claims = codes "address" ∷ []

unfoldable pub phone_claims : List Text
phone_claims = codes "phone_number" ∷ codes "phone_number_verified" ∷ []

-- these scope values request the claim of this name
unfoldable pub is_claim_of : Scopes → Text → Bool
is_claim_of s name =
    (s.profile && is_one_of profile_claims name) || (s.email && is_one_of email_claims name)
    || (s.address && is_one_of address_claims name) || (s.phone && is_one_of phone_claims name)

-- the name is a standard claim: some scope value requests it
abbrev pub is_standard_claim : Text → Bool
is_standard_claim name = is_claim_of all_scopes name

-- ---- the scope values of claims

-- the scope values that request the claim of this name
unfoldable pub scopes_with : Text → Scopes
scopes_with name =
    record {
      openid = false;
      profile = is_one_of profile_claims name;
      email = is_one_of email_claims name;
      address = is_one_of address_claims name;
      phone = is_one_of phone_claims name;
    }

-- these scope values, and those that request one of these claims
abbrev pub with_scopes : Scopes → List Text → Scopes
with_scopes s [] = s
with_scopes s (name ∷ names) = with_scopes (joined s (scopes_with name)) names

-- the scope values that request one of these claims
unfoldable pub scopes_with_any : List Text → Scopes
scopes_with_any names = with_scopes no_scopes names

-- ---- the kinds of their values (Core 5.1)

-- true or false
unfoldable pub flag_claims : List Text
flag_claims = codes "email_verified" ∷ codes "phone_number_verified" ∷ []

-- a number of seconds
unfoldable pub seconds_claims : List Text
seconds_claims = codes "updated_at" ∷ []

-- the kind of the value of a standard claim: a text, except for those above and for an address (Core 5.1.1)
abbrev pub kind_of : Text → Option ClaimKind
kind_of name =
    if is_one_of flag_claims name then Some Flag
    else if is_one_of seconds_claims name then Some Seconds
    else if is_one_of address_claims name then Some Address
    else if is_standard_claim name then Some TextKind
    else None
