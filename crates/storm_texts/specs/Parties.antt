-- A configuration over which a storm can be played.
use Rattle.std.specs.Prelude.{◌≡◌, true, is_some}
use Rattle.client_registry.specs.Configuration.{Configuration}
use Rattle.client_registry.specs.Rules.{party_place}
use Rattle.storm_texts.specs.declared.login.Party.{Party}
use Rattle.storm_texts.specs.Logins.{party_name}

-- each party at which a storm has logins is a party of the configuration
abbrev pub KnowsParties : Configuration → Type 0
KnowsParties c = (party : Party) → is_some (party_place (party_name party) c.parties) ≡ true
