-- What a user granted a client: the scope values to which a consent form of the user said yes, for that client (OpenID Connect
-- Core 1.0, 3.1.2.4).
use Rattle.std.specs.Prelude.{◌≡◌, ◌⊎◌, ℕ, true, false}
use Rattle.client_registry.specs.Configuration.{Configuration}
use Rattle.client_registry.specs.Numbers.{client_at}
use Rattle.sso_base.specs.Words.{Text}
use Rattle.oidc_words.specs.declared.scopes.Scopes.{Scopes}
use Rattle.oidc_words.specs.Words.{is_one_of}
use Rattle.oidc_words.specs.Claims.{profile_claims, email_claims, address_claims, phone_claims}
use Rattle.user_interaction.specs.Need.{asks_consent}
use Rattle.op_answer.specs.Past.{OpPast}
use Rattle.op_answer.specs.Granted.{Granted}

-- the user granted each of these scope values
pub record SaidYesTo (past : OpPast) (user client : ℕ) (scopes : Scopes) : Type 0 where
  pub openid : scopes.openid ≡ true → Granted past user client (λ s. s.openid)
  pub profile : scopes.profile ≡ true → Granted past user client (λ s. s.profile)
  pub email : scopes.email ≡ true → Granted past user client (λ s. s.email)
  pub address : scopes.address ≡ true → Granted past user client (λ s. s.address)
  pub phone : scopes.phone ≡ true → Granted past user client (λ s. s.phone)

-- or the client is registered as one that requires no consent
abbrev pub HasConsent : Configuration → OpPast → ℕ → ℕ → Scopes → Type 0
HasConsent c past user client scopes = (asks_consent (client_at c client) ≡ false) ⊎ SaidYesTo past user client scopes

-- the user granted the scope value that has the claim with this name (Core 5.4)
abbrev pub SaidYesToClaim : OpPast → ℕ → ℕ → Text → Type 0
SaidYesToClaim past user client name =
    ((is_one_of profile_claims name ≡ true) × Granted past user client (λ s. s.profile))
    ⊎ ((is_one_of email_claims name ≡ true) × Granted past user client (λ s. s.email))
    ⊎ ((is_one_of address_claims name ≡ true) × Granted past user client (λ s. s.address))
    ⊎ ((is_one_of phone_claims name ≡ true) × Granted past user client (λ s. s.phone))

abbrev pub HasConsentTo : Configuration → OpPast → ℕ → ℕ → Text → Type 0
HasConsentTo c past user client name = (asks_consent (client_at c client) ≡ false) ⊎ SaidYesToClaim past user client name
