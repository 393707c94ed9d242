-- The participants of a world: a registry, and the provider that each of its relying parties trusts. That provider has the
-- registry's issuer.
use Rattle.std.specs.Prelude.{◌≡◌, ℕ}
use Rattle.oidc_words.specs.declared.response_types.Types.{Types}
use Rattle.client_registry.specs.declared.records.Provider.{Provider}
use Rattle.client_registry.specs.Configuration.{Configuration}
use Rattle.client_registry.specs.Numbers.{party_row}
use Rattle.client_registry.specs.Registered.{IsRegistry}
use Rattle.rp_answer.specs.Setup.{PartySetup}

-- parties are identified by their numbers, from 0
pub record Site : Type 0 where
  pub configuration : Configuration
  pub trusts : ℕ → Provider

-- every party trusts the registry's own provider
abbrev pub own_site : Configuration → Site
own_site c = record { configuration = c; trusts = λ n. c.provider }

-- the setup of a party
abbrev pub setup_at : Site → ℕ → PartySetup
setup_at s n = record { configuration = s.configuration; number = n; provider = s.trusts n }

-- the number of the client that a party is
abbrev pub client_of_party : Site → ℕ → ℕ
client_of_party s n = (party_row s.configuration n).client

-- the response type of a party
abbrev pub types_at : Site → ℕ → Types
types_at s n = (party_row s.configuration n).types

-- the registry is the result of reading a configuration, and every trusted provider has its issuer
pub record IsSite (s : Site) : Type 0 where
  pub registry : IsRegistry s.configuration
  pub one_issuer : (n : ℕ) → (s.trusts n).issuer ≡ s.configuration.provider.issuer
