-- What a relying party is set up with.
use Rattle.std.specs.Prelude.{ℕ}
use Rattle.client_registry.specs.declared.records.Client.{Client}
use Rattle.client_registry.specs.declared.records.Party.{Party}
use Rattle.client_registry.specs.declared.records.Provider.{Provider}
use Rattle.client_registry.specs.Configuration.{Configuration}
use Rattle.client_registry.specs.Numbers.{party_row, party_client}

-- the configuration, the party's number in it, from 0, and the provider that it trusts
pub record PartySetup : Type 0 where
  pub configuration : Configuration
  pub number : ℕ
  pub provider : Provider

abbrev pub party_of : PartySetup → Party
party_of s = party_row s.configuration s.number

-- the client that the party is
abbrev pub client_of : PartySetup → Client
client_of s = party_client s.configuration s.number
