-- The setups of relying parties that are served.
use Rattle.std.specs.Prelude.{◌≡◌, ◌<◌, ℕ, length}
use Rattle.client_registry.specs.declared.records.Provider.{Provider}
use Rattle.client_registry.specs.Configuration.{Configuration}
use Rattle.rp_answer.specs.Setup.{PartySetup}

abbrev pub setup_of : Configuration → ℕ → Provider → PartySetup
setup_of c n provider = record { configuration = c; number = n; provider = provider }

-- a party of the registry, and a provider of the registry's issuer
pub record MayServe (s : PartySetup) : Type 0 where
  pub known : s.number < length s.configuration.parties
  pub issuer : s.provider.issuer ≡ s.configuration.provider.issuer
