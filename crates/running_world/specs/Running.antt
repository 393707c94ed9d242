-- A running world as a value: the registry, the contents of each place, and the changes of the browsers' jars, each list the
-- newest first.
use Rattle.std.specs.Prelude.{ℕ, suc, ◌==◌, List, [], ◌∷◌, length, map, Option, Some, None, if◌then◌else◌}
use Rattle.sso_base.specs.declared.http.Ask.{Ask}
use Rattle.sso_base.specs.Words.{Word}
use Rattle.client_registry.specs.Configuration.{Configuration}
use Rattle.op_request.specs.Prepared.{prepared as op_prepared}
use Rattle.op_exchange.specs.declared.reply.OpReply.{OpReply}
use Rattle.rp_exchange.specs.declared.reply.RpReply.{RpReply}
use Rattle.sso_places.specs.declared.types.To.{To}
use Rattle.sso_places.specs.declared.types.To.TheVariants as to
use Rattle.sso_places.specs.declared.types.WorldAsk.{WorldAsk}
use Rattle.sso_places.specs.declared.types.WorldAsk.TheVariants.{Http}
use Rattle.sso_places.specs.declared.types.WorldReply.{WorldReply}
use Rattle.sso_places.specs.declared.types.WorldReply.TheVariants as reply
use Rattle.sso_places.specs.Legal.{party_prepared}
use Rattle.sso_places.specs.World.{Place, Provider, Party, Nothing, World}
use Rattle.running_world.specs.declared.kept.Asked.{Asked}
use Rattle.running_world.specs.declared.kept.Kept.{Kept}
use Rattle.cookie_jars.specs.declared.jar_note.JarNote.{JarNote}

pub record Running : Type 0 where
  pub registry : Configuration
  pub kept : List Kept
  pub jars : List JarNote

-- ---- the places

-- a place of the provider, and of the party with a number, with an HTTP request
abbrev pub op_place : Configuration → ℕ → ℕ → List Word → Ask → OpReply → Place
op_place c from at fresh request answer =
    Provider from request (record { entry = record { at = at; fresh = fresh; ask = op_prepared c request }; reply = answer })

abbrev pub rp_place : Configuration → ℕ → ℕ → ℕ → List Word → WorldAsk → RpReply → Place
rp_place c n from at fresh ask answer =
    Party n from ask (record { entry = record { at = at; fresh = fresh; ask = party_prepared c n ask }; reply = answer })

abbrev pub place_asked : Configuration → Asked → To → WorldAsk → WorldReply → Place
place_asked c a to.Provider (Http request) (reply.Provider answer) = op_place c a.from a.at a.fresh request answer
place_asked c a (to.Party n) ask (reply.Party answer) = rp_place c n a.from a.at a.fresh ask answer
place_asked c a role ask answer = Nothing

abbrev pub place_if : Configuration → Option Asked → WorldReply → Place
place_if c None answer = Nothing
place_if c (Some a) answer = place_asked c a a.to a.ask answer

abbrev pub kept_place : Configuration → Kept → Place
kept_place c k = place_if c k.asked k.reply

abbrev pub places_of : Configuration → List Kept → World
places_of c kept = map (kept_place c) kept

abbrev pub world_of : Running → World
world_of r = places_of r.registry r.kept

-- what was kept at the place with this number
abbrev pub kept_at : List Kept → ℕ → Option Kept
kept_at [] number = None
kept_at (k ∷ kept) number = if number == suc (length kept) then Some k else kept_at kept number
