-- One more place of a world: the role's answer to the request, by its own history.
use Rattle.std.specs.Prelude.{ℕ, nat_lt, List, reverse, if◌then◌else◌}
use Rattle.sso_base.specs.Words.{Word}
use Rattle.sso_base.specs.Legal.{last_moment}
use Rattle.sso_base.specs.Journal.{history_weight}
use Rattle.client_registry.specs.Configuration.{Configuration}
use Rattle.op_request.specs.Prepared.{prepared as op_prepared}
use Rattle.op_exchange.specs.Weight.{ask_weight as op_weight}
use Rattle.op_answer.specs.Answering.{op_answer}
use Rattle.rp_exchange.specs.Weight.{ask_weight as rp_weight}
use Rattle.rp_answer.specs.Answering.{rp_answer}
use Rattle.sso_places.specs.declared.types.To.{To}
use Rattle.sso_places.specs.declared.types.To.TheVariants as to
use Rattle.sso_places.specs.declared.types.WorldAsk.{WorldAsk}
use Rattle.sso_places.specs.declared.types.WorldAsk.TheVariants.{Http, Tokens, Info}
use Rattle.sso_places.specs.Legal.{party_prepared}
use Rattle.sso_places.specs.Site.{Site, setup_at}
use Rattle.sso_places.specs.World.{Place, Nothing, World, op_past, rp_past}
use Rattle.running_world.specs.Running.{op_place, rp_place}

-- ---- which requests a role receives

-- the provider receives only HTTP requests
abbrev pub IsForRole : To → WorldAsk → Type 0
IsForRole to.Provider (Http request) = Unit {0}
IsForRole to.Provider (Tokens w answer) = ⊥
IsForRole to.Provider (Info w answer) = ⊥
IsForRole (to.Party n) ask = Unit {0}

-- ---- the place

-- time never goes back
abbrev pub later : ℕ → ℕ → ℕ
later last at = if nat_lt at last then last else at

abbrev pub stepped : Site → ℕ → To → ℕ → List Word → WorldAsk → World → Place
stepped s from to.Provider at fresh (Http request) world =
    let c = s.configuration in
    let past = op_past world in
    let moment = later (last_moment past) at in
    op_place c from moment fresh request (op_answer c past (record { at = moment; fresh = fresh; ask = op_prepared c request }))
stepped s from (to.Party n) at fresh ask world =
    let c = s.configuration in
    let past = rp_past n world in
    let moment = later (last_moment past) at in
    rp_place c n from moment fresh ask (rp_answer (setup_at s n) past (record { at = moment; fresh = fresh; ask = party_prepared c n ask }))
stepped s from role at fresh ask world = Nothing

-- ---- weights

-- the weight of a role's history
abbrev pub role_weight : To → World → ℕ
role_weight to.Provider world = history_weight op_weight (reverse (op_past world))
role_weight (to.Party n) world = history_weight rp_weight (reverse (rp_past n world))

-- the weight of a request to a role
abbrev pub asked_weight : Configuration → To → WorldAsk → ℕ
asked_weight c to.Provider (Http request) = op_weight (op_prepared c request)
asked_weight c (to.Party n) ask = rp_weight (party_prepared c n ask)
asked_weight c role ask = 0
