-- Legal worlds: the history of each role is legal, and each entry is the parsed request.
use Rattle.std.specs.Prelude.{◌≡◌, ◌<◌, ℕ, length}
use Rattle.std.specs.List.{AllByRecursion}
use Rattle.client_registry.specs.Configuration.{Configuration}
use Rattle.op_answer.specs.Legal.{IsLegalOp}
use Rattle.rp_answer.specs.Legal.{IsLegalRp}
use Rattle.op_request.specs.Prepared.{prepared as op_prepared}
use Rattle.rp_request.specs.Prepared.{prepared as rp_prepared, tokens_prepared, info_prepared}
use Rattle.rp_exchange.specs.declared.ask.RpAsk.{RpAsk}
use Rattle.sso_places.specs.declared.types.To.{To}
use Rattle.sso_places.specs.declared.types.To.TheVariants as to
use Rattle.sso_places.specs.declared.types.WorldAsk.{WorldAsk}
use Rattle.sso_places.specs.declared.types.WorldAsk.TheVariants.{Http, Tokens, Info}
use Rattle.sso_places.specs.Site.{Site, setup_at}
use Rattle.sso_places.specs.World.{Place, Provider, Party, Nothing, World, op_past, rp_past}

-- a role of the registry: its provider, or one of its parties
abbrev pub IsRole : Configuration → To → Type 0
IsRole c to.Provider = Unit {0}
IsRole c (to.Party n) = n < length c.parties

-- the parsed request to the party with this number
abbrev pub party_prepared : Configuration → ℕ → WorldAsk → RpAsk
party_prepared c n (Http request) = rp_prepared c n request
party_prepared c n (Tokens w answer) = tokens_prepared c n w answer
party_prepared c n (Info w answer) = info_prepared w answer

-- the entry is the parsed request, and the party is in the registry
abbrev pub IsAsked : Configuration → Place → Type 0
IsAsked c (Provider from request p) = p.entry.ask ≡ op_prepared c request
IsAsked c (Party n from request p) = (n < length c.parties) × (p.entry.ask ≡ party_prepared c n request)
IsAsked c Nothing = Unit {0}

-- each reply is the core's answer to its entry and the role's earlier history, and the moments of a role never decrease
pub record IsLegalWorld (s : Site) (world : World) : Type 0 where
  pub provider : IsLegalOp s.configuration (op_past world)
  pub parties : (n : ℕ) → IsLegalRp (setup_at s n) (rp_past n world)
  pub asked : AllByRecursion (IsAsked s.configuration) world
