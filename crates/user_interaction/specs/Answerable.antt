-- Which requests may be answered, in the words of the standard (OpenID Connect Core 1.0, 3.1.2.1 and 3.1.2.4).
use Rattle.std.specs.Prelude.{ℕ, ◌≡◌, ◌≤◌, ◌+◌, ◌⊎◌, true, false, List, Option, Some, None}
use Rattle.client_registry.specs.Configuration.{Configuration, subject_at}
use Rattle.client_registry.specs.Numbers.{client_at}
use Rattle.oidc_words.specs.Words.{is_one_of}
use Rattle.oidc_words.specs.Scopes.{covers}
use Rattle.auth_request.specs.declared.wish.Wish.{Wish}
use Rattle.oidc_words.specs.declared.errors.AuthError.{AuthError}
use Rattle.oidc_words.specs.declared.errors.AuthError.TheVariants.{LoginRequired, ConsentRequired, AccessDenied}
use Rattle.user_interaction.specs.declared.standing.Standing.{Standing}
use Rattle.user_interaction.specs.Need.{needed_scopes, asks_consent, is_late, is_foreign, is_unagreed}

-- the login is at most as many seconds ago as `max_age` allows
abbrev pub IsRecent : Option ℕ → ℕ → ℕ → Type 0
IsRecent None auth_time at = Unit {0}
IsRecent (Some most) auth_time at = at ≤ auth_time + most

-- the user logged in for this request itself; or no new login is requested, and the existing one is recent
abbrev pub HasSignedIn : Wish → Standing → ℕ → Type 0
HasSignedIn wish s at = (s.in_turn ≡ true) ⊎ ((wish.login ≡ false) × IsRecent wish.max_age s.auth_time at)

-- the subject is one of the requested ones, if there are any (Core 5.5.1)
abbrev pub IsAskedFor : List ℕ → Option (List (List ℕ)) → Type 0
IsAskedFor sub None = Unit {0}
IsAskedFor sub (Some subs) = is_one_of subs sub ≡ true

-- the user has granted the client all that a consent to the wish covers, and the wish does not request consent again
pub record HasGranted (wish : Wish) (s : Standing) : Type 0 where
  pub not_again : wish.consent ≡ false
  pub covered : covers s.granted (needed_scopes wish) ≡ true
  pub ever : s.granted.openid ≡ true

-- the client requires no consent, or the user consented to this request itself, or has granted it before
abbrev pub HasAgreed : Configuration → Wish → Standing → Type 0
HasAgreed c wish s = (asks_consent (client_at c wish.client) ≡ false) ⊎ (s.agreed ≡ true) ⊎ HasGranted wish s

pub record IsAnswerable (c : Configuration) (wish : Wish) (s : Standing) (at : ℕ) : Type 0 where
  pub signed_in : HasSignedIn wish s at
  pub user : IsAskedFor (subject_at c wish.client s.user) wish.subs
  pub agreed : HasAgreed c wish s

-- particular subjects are requested, and this is none of them (Core 5.5.1)
abbrev pub IsOther : List ℕ → Option (List (List ℕ)) → Type 0
IsOther sub None = ⊥
IsOther sub (Some subs) = is_one_of subs sub ≡ false

-- the user logged in for this request itself, and is none of the requested users
abbrev pub IsDenied : Configuration → Wish → Option Standing → Type 0
IsDenied c wish None = ⊥
IsDenied c wish (Some s) = (s.in_turn ≡ true) × IsOther (subject_at c wish.client s.user) wish.subs

-- nobody is logged in, or the login is too old, or another user is requested: a login is needed
abbrev pub LacksLogin : Configuration → Wish → Option Standing → ℕ → Type 0
LacksLogin c wish standing at = (standing ≡ None) ⊎ (is_late wish standing at ≡ true) ⊎ (is_foreign c wish standing ≡ true)

-- the cause of an error: a login or a consent is needed and no page may be shown (Core 3.1.2.6, `login_required` and
-- `consent_required`), or access is denied
abbrev pub HasCause : Configuration → Wish → Option Standing → ℕ → AuthError → Type 0
HasCause c wish standing at code =
    ((code ≡ LoginRequired) × (wish.none ≡ true) × LacksLogin c wish standing at)
    ⊎ ((code ≡ ConsentRequired) × (wish.none ≡ true) × (is_unagreed c wish standing ≡ true))
    ⊎ ((code ≡ AccessDenied) × IsDenied c wish standing)
