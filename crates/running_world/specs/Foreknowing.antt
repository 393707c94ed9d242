-- What is known, before the provider answers, about the tokens that its answer writes: for which client, and of which session.
use Rattle.std.specs.Prelude.{◌≡◌, ◌<◌, ℕ, length, Option, Some, None, IfSome, Ok}
use Rattle.client_registry.specs.Configuration.{Configuration}
use Rattle.code_grant.specs.declared.rows.SessionRow.{SessionRow}
use Rattle.op_exchange.specs.declared.ask.OpAsk.{OpAsk}
use Rattle.op_exchange.specs.declared.ask.OpAsk.TheVariants as op_ask
use Rattle.op_request.specs.Prepared.{prepared as op_prepared}
use Rattle.op_answer.specs.Past.{OpPast}
use Rattle.sso_places.specs.declared.types.To.{To}
use Rattle.sso_places.specs.declared.types.To.TheVariants as to
use Rattle.sso_places.specs.declared.types.WorldAsk.{WorldAsk}
use Rattle.sso_places.specs.declared.types.WorldAsk.TheVariants.{Http}
use Rattle.sso_places.specs.Told.{session_ended}
use Rattle.sso_places.specs.World.{World, op_past}
use Rattle.running_world.specs.declared.foreknown.Foreknown.{Foreknown}
use Rattle.running_world.specs.declared.kept.Asked.{Asked}

-- the client of a token request
abbrev pub client_asked : OpAsk → Option ℕ
client_asked (op_ask.Token (Ok grant)) = Some grant.client
client_asked asked = None

-- the client and the user are in the registry
pub record IsKnown (c : Configuration) (fore : Foreknown) : Type 0 where
  pub client : IfSome fore.client (λ n. n < length c.clients)
  pub user : IfSome fore.ended (λ (session : SessionRow). session.user < length c.users)

-- for a request to the provider after a history: the client of a token request, and the session that a sign-out ends
pub record IsForeknown (c : Configuration) (past : OpPast) (at : ℕ) (asked : OpAsk) (fore : Foreknown) : Type 0 where
  pub client_is : fore.client ≡ client_asked asked
  pub ended_is : fore.ended ≡ session_ended past at asked
  pub known : IsKnown c fore

-- for a request to a role after a world; what a party writes depends on nothing else
abbrev pub IsForeknownAt : Configuration → World → ℕ → To → WorldAsk → Foreknown → Type 0
IsForeknownAt c world at to.Provider (Http request) fore = IsForeknown c (op_past world) at (op_prepared c request) fore
IsForeknownAt c world at role ask fore = Unit {0}

abbrev pub IsForeknownIf : Configuration → World → Option Asked → Foreknown → Type 0
IsForeknownIf c world None fore = Unit {0}
IsForeknownIf c world (Some a) fore = IsForeknownAt c world a.at a.to a.ask fore
