-- What an authorization request still needs before it is answered (OpenID Connect Core 1.0, 3.1.2.1, 3.1.2.3 and 3.1.2.4).
use Rattle.std.specs.Prelude.{ℕ, ◌-◌, ◌<◌, length, Bool, false, not, ◌&&◌, ◌||◌, nat_lt, List, Option, Some, None, is_none, if◌then◌else◌}
use Rattle.client_registry.specs.declared.records.Client.{Client}
use Rattle.client_registry.specs.Configuration.{Configuration, subject_at}
use Rattle.client_registry.specs.Numbers.{client_at}
use Rattle.oidc_words.specs.declared.scopes.Scopes.{Scopes}
use Rattle.oidc_words.specs.Words.{is_one_of}
use Rattle.oidc_words.specs.Scopes.{joined, covers}
use Rattle.oidc_words.specs.Claims.{scopes_with_any}
use Rattle.auth_request.specs.declared.wish.Wish.{Wish}
use Rattle.oidc_words.specs.declared.errors.AuthError.TheVariants.{LoginRequired, ConsentRequired, AccessDenied}
use Rattle.user_interaction.specs.declared.need.Need.{Need}
use Rattle.user_interaction.specs.declared.need.Need.TheVariants as need
use Rattle.user_interaction.specs.declared.standing.Standing.{Standing}

-- ---- scope values

-- the scope values that a consent to the wish covers: those that it names, and those of the claims that it requests
unfoldable pub needed_scopes : Wish → Scopes
needed_scopes wish = joined wish.scopes (joined (scopes_with_any wish.id_asked) (scopes_with_any wish.info_asked))

-- ---- conditions on the session

abbrev pub is_older : Option ℕ → ℕ → Bool
is_older None age = false
is_older (Some most) age = nat_lt most age

-- the user logged in for this request itself
abbrev pub is_in_turn : Option Standing → Bool
is_in_turn None = false
is_in_turn (Some s) = s.in_turn

-- the login is older than `max_age` allows
abbrev pub is_late : Wish → Option Standing → ℕ → Bool
is_late wish None at = false
is_late wish (Some s) at = not s.in_turn && is_older wish.max_age (at - s.auth_time)

abbrev pub is_none_of : List ℕ → Option (List (List ℕ)) → Bool
is_none_of sub None = false
is_none_of sub (Some subs) = not (is_one_of subs sub)

-- particular users are requested, and this is none of them (Core 5.5.1)
abbrev pub is_foreign : Configuration → Wish → Option Standing → Bool
is_foreign c wish None = false
is_foreign c wish (Some s) = is_none_of (subject_at c wish.client s.user) wish.subs

-- ---- conditions on the user's consent

abbrev pub asks_consent : Option Client → Bool
asks_consent None = false
asks_consent (Some client) = client.asks_consent

-- consent is required, and not given yet (Core 3.1.2.4)
abbrev pub is_unagreed : Configuration → Wish → Option Standing → Bool
is_unagreed c wish None = false
is_unagreed c wish (Some s) =
    asks_consent (client_at c wish.client)
    && not s.agreed
    && (wish.consent || not (covers s.granted (needed_scopes wish)) || not s.granted.openid)

-- ---- the need

-- the need: the first case that applies
unfoldable pub needed : Configuration → Wish → Option Standing → ℕ → Need
needed c wish standing at =
    if wish.none && (is_none standing || is_late wish standing at || is_foreign c wish standing)
    then need.Error LoginRequired
    else if wish.none && is_unagreed c wish standing
    then need.Error ConsentRequired
    else if is_none standing
    then need.Login
    else if not (is_in_turn standing) && (wish.login || is_late wish standing at || is_foreign c wish standing)
    then need.Login
    else if is_foreign c wish standing
    then need.Error AccessDenied
    else if is_unagreed c wish standing
    then need.Consent
    else need.Answer

-- ---- precondition

-- the user of the standing is one of the registry's
abbrev pub IsUserOf : Configuration → Option Standing → Type 0
IsUserOf c None = Unit {0}
IsUserOf c (Some s) = s.user < length c.users
