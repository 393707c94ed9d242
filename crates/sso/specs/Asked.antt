-- What a command is to serve, or the outcome if that is refused: by the configuration, and for a party by its name and the provider's
-- metadata.
use Rattle.std.specs.Prelude.{ℕ, Bool, true, false, nat_le, List, [], ◌∷◌, ◌++◌, length, codes, Option, Some, None, Result, Ok, Err, if◌then◌else◌}
use Rattle.std.specs.Fmt.{decimal}
use Rattle.sso_base.specs.Words.{Text}
use Rattle.configuration_rows.specs.declared.no.RegNo.{RegNo}
use Rattle.client_registry.specs.declared.records.Provider.{Provider}
use Rattle.client_registry.specs.Configuration.{Configuration}
use Rattle.client_registry.specs.Reading.{registry_read}
use Rattle.client_registry.specs.Rules.{party_place}
use Rattle.discovery_doc.specs.declared.no.DiscNo.{DiscNo}
use Rattle.discovery_doc.specs.declared.no.DiscNo.TheVariants as disc
use Rattle.discovery_doc.specs.Reading.{discovery_read}
use Rattle.rp_accept.specs.Serving.{setup_of}
use Rattle.rp_answer.specs.Setup.{PartySetup}
use Rattle.end_request.specs.Returning.{ReturnLists, returns_read}
use Rattle.signout_answer.specs.declared.asks.EndSetup.{EndSetup}
use Rattle.sso_serve.specs.Cores.{end_setup}
use Rattle.sso.specs.Answer.{Answer, registry_name, configuration_refusal}

-- ---- `op`

abbrev pub provider_asked : Result Configuration RegNo → Result Configuration Answer
provider_asked (Ok c) = Ok c
provider_asked (Err why) = Err (configuration_refusal (registry_name why))

-- the configuration whose provider is to be served
unfoldable pub op_asked : List ℕ → Result Configuration Answer
op_asked config = provider_asked (registry_read config)

-- ---- `op-plus`

abbrev pub returns_asked : Configuration → Result ReturnLists RegNo → Result EndSetup Answer
returns_asked c (Ok returns) = Ok (end_setup c returns)
returns_asked c (Err why) = Err (configuration_refusal (registry_name why))

abbrev pub plus_asked : List ℕ → Result Configuration RegNo → Result EndSetup Answer
plus_asked config (Ok c) = returns_asked c (returns_read config)
plus_asked config (Err why) = Err (configuration_refusal (registry_name why))

-- the configuration whose provider is to be served, and where browsers may be sent after a sign-out
unfoldable pub op_plus_asked : List ℕ → Result EndSetup Answer
op_plus_asked config = plus_asked config (registry_read config)

-- ---- `rp`

-- the name of a refusal of metadata
unfoldable pub metadata_name : DiscNo → Text
metadata_name disc.NoMemory = []
metadata_name disc.NotObject = codes "NotObject"
metadata_name (disc.Missing name) = codes "Missing"
metadata_name disc.IssuerDiffers = codes "IssuerDiffers"
metadata_name disc.NoHs256 = codes "NoHs256"
metadata_name (disc.BadUrl name) = codes "BadUrl"

-- the text for rejected metadata, given the reason's name
unfoldable pub metadata_text : Text → Text
metadata_text name = codes "discovery " ++ name ++ 10 ∷ []

abbrev pub metadata_refusal : Text → Answer
metadata_refusal name = record { status = 10; text = metadata_text name }

abbrev pub provider_read : Result Provider DiscNo → Result Provider Answer
provider_read (Ok provider) = Ok provider
provider_read (Err why) = Err (metadata_refusal (metadata_name why))

-- the provider that the metadata describe; they have at most 65,536 bytes (OpenID Connect Discovery 1.0, 4.3)
unfoldable pub described : Configuration → List ℕ → Result Provider Answer
described c metadata =
    if nat_le (length metadata) 65536
    then provider_read (discovery_read c.provider.issuer metadata)
    else Err (metadata_refusal (codes "Size"))

-- the provider that a party trusts: that of the metadata, or else the configuration's
abbrev pub trusted : Configuration → Option (List ℕ) → Result Provider Answer
trusted c (Some metadata) = described c metadata
trusted c None = Ok c.provider

abbrev pub setup_asked : Configuration → ℕ → Result Provider Answer → Result PartySetup Answer
setup_asked c number (Ok provider) = Ok (setup_of c number provider)
setup_asked c number (Err refusal) = Err refusal

abbrev pub number_asked : Configuration → Option ℕ → Option (List ℕ) → Result PartySetup Answer
number_asked c (Some number) metadata = setup_asked c number (trusted c metadata)
number_asked c None metadata = Err (configuration_refusal (codes "NoParty"))

-- the setup of the party with this name
abbrev pub name_asked : Configuration → Text → Option (List ℕ) → Result PartySetup Answer
name_asked c name metadata = number_asked c (party_place name c.parties) metadata

abbrev pub party_asked : Result Configuration RegNo → Text → Option (List ℕ) → Result PartySetup Answer
party_asked (Ok c) name metadata = name_asked c name metadata
party_asked (Err why) name metadata = Err (configuration_refusal (registry_name why))

-- the party that is to be served, with the provider that it trusts
unfoldable pub rp_asked : List ℕ → Text → Option (List ℕ) → Result PartySetup Answer
rp_asked config name metadata = party_asked (registry_read config) name metadata

-- ---- a server that has ended

unfoldable pub door_text : Text
door_text = codes "door\n"

unfoldable pub served_text : ℕ → ℕ → Text
served_text served entries = codes "served " ++ decimal served ++ codes " entries " ++ decimal entries ++ 10 ∷ []

-- the outcome of a server that has ended: a door failed, or else the numbers of served connections and of the history's entries
abbrev pub server_answer : Bool → ℕ → ℕ → Answer
server_answer true served entries = record { status = 9; text = door_text }
server_answer false served entries = record { status = 0; text = served_text served entries }
