-- The invariant of a running world: the registry is one that was read, the history of each role is the one in the places, and
-- the world is legal.
use Rattle.std.specs.Prelude.{◌≡◌, ℕ, List, ◌∷◌, length, Some, slice_get}
use Rattle.sso_base.specs.Words.{Word}
use Rattle.sso_base.specs.declared.http.Ask.{Ask}
use Rattle.client_registry.specs.Configuration.{Configuration}
use Rattle.client_registry.specs.Registered.{IsRegistry}
use Rattle.op_core.specs.Providing.{Providing, past_of as op_past_of}
use Rattle.op_exchange.specs.declared.reply.OpReply.{OpReply}
use Rattle.op_request.specs.Prepared.{prepared as op_prepared}
use Rattle.rp_core.specs.Relying.{Relying, past_of as rp_past_of}
use Rattle.rp_exchange.specs.declared.reply.RpReply.{RpReply}
use Rattle.sso_places.specs.declared.types.To.{To}
use Rattle.sso_places.specs.declared.types.To.TheVariants as to
use Rattle.sso_places.specs.declared.types.WorldAsk.{WorldAsk}
use Rattle.sso_places.specs.declared.types.WorldAsk.TheVariants.{Http}
use Rattle.sso_places.specs.declared.types.WorldReply.{WorldReply}
use Rattle.sso_places.specs.declared.types.WorldReply.TheVariants as reply
use Rattle.sso_places.specs.Legal.{IsLegalWorld, party_prepared}
use Rattle.sso_places.specs.Site.{own_site, setup_at}
use Rattle.sso_places.specs.World.{World, op_past, rp_past}
use Rattle.running_world.specs.declared.kept.Kept.{Kept}
use Rattle.cookie_jars.specs.Jars.{jars_set}
use Rattle.running_world.specs.Roles.{OpSteps, RpStepsAt}
use Rattle.running_world.specs.Running.{Running}
use Rattle.running_world.specs.Transcribed.{Transcribed}
use Rattle.sso_places.specs.Cookies.{set_by}

-- the view of a world's places
abbrev pub shown : Transcribed → Running
shown t = record { registry = t.registry; kept = t.kept; jars = t.jars }

-- the party with this number trusts the registry's provider, and its history is the one in the places
pub record IsParty (c : Configuration) (world : World) (n : ℕ) (role : Relying) : Type 0 where
  pub setup : role.setup ≡ setup_at (own_site c) n
  pub past : rp_past_of role ≡ rp_past n world

pub record IsWorld (c : Configuration) (provider : Providing) (parties : List Relying) (world : World) : Type 0 where
  pub read : IsRegistry c
  pub registry : provider.registry ≡ c
  pub past : op_past_of provider ≡ op_past world
  pub count : length parties ≡ length c.parties
  pub each : (n : ℕ) (role : Relying) → slice_get parties n ≡ Some role → IsParty c world n role
  pub legal : IsLegalWorld (own_site c) world

-- ---- one more place

abbrev pub kept_of : ℕ → ℕ → List Word → To → WorldAsk → WorldReply → Kept
kept_of from at fresh role ask answer = record { asked = Some (record { from = from; at = at; fresh = fresh; to = role; ask = ask }); reply = answer }

-- what was kept of the place
pub record IsKept (before after : Transcribed) (from at : ℕ) (fresh : List Word) (role : To) (ask : WorldAsk) (answer : WorldReply) : Type 0 where
  pub registry : after.registry ≡ before.registry
  pub kept : after.kept ≡ kept_of from at fresh role ask answer ∷ before.kept
  pub jars : after.jars ≡ jars_set from role (set_by answer) before.jars

-- the provider took a step, and its answer was kept
pub record OpAsked (before after : Providing) (old new : Transcribed) (from at : ℕ) (fresh : List Word) (request : Ask) : Type 0 where
  pub moment : ℕ
  pub answer : OpReply
  pub steps : OpSteps before after at fresh (op_prepared old.registry request) moment answer
  pub is : IsKept old new from moment fresh to.Provider (Http request) (reply.Provider answer)

-- the same for the party with this number
pub record RpAsked (before after : List Relying) (old new : Transcribed) (from n at : ℕ) (fresh : List Word) (ask : WorldAsk) : Type 0 where
  pub moment : ℕ
  pub answer : RpReply
  pub steps : RpStepsAt before after n at fresh (party_prepared old.registry n ask) moment answer
  pub is : IsKept old new from moment fresh (to.Party n) ask (reply.Party answer)
