-- Laws about what an authorization request needs. Each is a clause of a function of `law.rt`, which says it in words.
use Rattle.std.specs.Prelude.{◌≡◌, ◌≢◌, ℕ, true, false, Option}
use Rattle.client_registry.specs.Configuration.{Configuration}
use Rattle.client_registry.specs.Numbers.{client_at}
use Rattle.auth_request.specs.declared.wish.Wish.{Wish}
use Rattle.oidc_words.specs.declared.errors.AuthError.{AuthError}
use Rattle.user_interaction.specs.declared.standing.Standing.{Standing}
use Rattle.user_interaction.specs.declared.need.Need.TheVariants as need
use Rattle.user_interaction.specs.Need.{needed, asks_consent}
use Rattle.user_interaction.specs.Answerable.{HasCause}

-- ---- pages

abbrev pub SilentRequestsShowNoLoginPage : Type 0
SilentRequestsShowNoLoginPage =
    (c : Configuration) (wish : Wish) (standing : Option Standing) (at : ℕ) → wish.none ≡ true → wish.login ≡ false
    → needed c wish standing at ≢ need.Login

abbrev pub SilentRequestsShowNoConsentPage : Type 0
SilentRequestsShowNoConsentPage =
    (c : Configuration) (wish : Wish) (standing : Option Standing) (at : ℕ) → wish.none ≡ true → wish.login ≡ false
    → needed c wish standing at ≢ need.Consent

abbrev pub GivenConsentIsNotAsked : Type 0
GivenConsentIsNotAsked =
    (c : Configuration) (wish : Wish) (standing : Option Standing) (at : ℕ) → asks_consent (client_at c wish.client) ≡ false
    → needed c wish standing at ≢ need.Consent

-- ---- refusals

abbrev pub RefusalsHaveTheirCauses : Type 0
RefusalsHaveTheirCauses =
    (c : Configuration) (wish : Wish) (standing : Option Standing) (at : ℕ) (code : AuthError)
    → needed c wish standing at ≡ need.Error code → HasCause c wish standing at code
