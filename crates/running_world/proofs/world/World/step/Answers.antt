use Rattle.std.proofs.Common.{◌≡◌, ℕ, ◌<◌, ◌≤◌, ◌+◌, length, OnOk, sym, ◌∙◌, subst}
use Rattle.sso_base.specs.Journal.{most_of}
use Rattle.sso_places.specs.declared.types.To.{To}
use Rattle.sso_places.specs.declared.types.To.TheVariants as to
use Rattle.running_world.specs.Running.{Running, world_of}
use Rattle.sso_places.specs.Legal.{IsRole, party_prepared}
use Rattle.running_world.specs.Stepping.{role_weight, asked_weight}
use Rattle.running_world.specs.Worlds.{shown}
use Rattle.running_world.proofs.Signing.{op_theorem, rp_theorem}
use Rattle.running_world.proofs.Steps.{op_keeps, rp_keeps, rp_found, rp_weighs, rp_limit, rp_room}
use Rattle.running_world.proofs.world.World.step.Goals as goal

-- ---- the provider received a request

pub invariant_of-self : goal.invariant_of-self
invariant_of-self c =
    op_keeps c.ask_provider.result c.self.inside.provider c.ask_provider.new.provider c.self.inside.parties.items c.self.inside.transcript c.ask_provider.new.transcript c.args.from c.args.at c.args.fresh c.in-Http.request c.self.invariant c.ask_provider.ensures.ok c.ask_provider.ensures.provider c.ask_provider.ensures.transcript

pub returns-in-Http-clause-theorem : goal.returns-in-Http-clause-theorem
returns-in-Http-clause-theorem c =
    op_theorem c.ask_provider.result c.self.inside.provider c.ask_provider.new.provider c.self.inside.parties.items c.self.inside.transcript c.ask_provider.new.transcript c.args.from c.args.at c.args.fresh c.in-Http.request c.args.self.now c.self.view_is c.self.invariant c.ask_provider.ensures.ok

-- ---- a party was

-- the party is one of the registry, as it is inside
party_low : (inside now : Running) (role : To) (n : ℕ) → inside ≡ now → role ≡ to.Party n → IsRole now.registry role → n < length inside.registry.parties
party_low inside now role n view is low =
    let T : To → Type 0 = λ t. IsRole now.registry t in
    let R : Running → Type 0 = λ r. n < length r.registry.parties in
    subst R (sym view) (subst T is low)

pub invariant_of-self-in-Party : goal.invariant_of-self-in-Party
invariant_of-self-in-Party c =
    rp_keeps c.ask_party.result c.self.inside.provider c.self.inside.parties.items c.ask_party.new.parties.items c.self.inside.transcript c.ask_party.new.transcript c.args.from c.in-Party.party c.args.at c.args.fresh c.args.ask (party_low (shown c.self.inside.transcript) c.args.self.now c.args.to c.in-Party.party c.self.view_is c.in-Party.is c.requires.role) c.self.invariant c.ask_party.ensures.ok c.ask_party.ensures.parties c.ask_party.ensures.transcript

pub returns-in-Party-clause-theorem : goal.returns-in-Party-clause-theorem
returns-in-Party-clause-theorem c =
    rp_theorem c.ask_party.result c.self.inside.provider c.self.inside.parties.items c.ask_party.new.parties.items c.self.inside.transcript c.ask_party.new.transcript c.args.from c.in-Party.party c.args.at c.args.fresh c.args.ask c.args.self.now (party_low (shown c.self.inside.transcript) c.args.self.now c.args.to c.in-Party.party c.self.view_is c.in-Party.is c.requires.role) c.self.view_is c.self.invariant c.ask_party.ensures.ok

pub returns-in-Party-clause-room : goal.returns-in-Party-clause-room
returns-in-Party-clause-room c =
    let was : Running = shown c.self.inside.transcript in
    let n : ℕ = c.in-Party.party in
    let found = rp_found c.self.inside.provider c.self.inside.parties.items was n c.self.invariant (party_low was c.args.self.now c.args.to n c.self.view_is c.in-Party.is c.requires.role) in
    let R : Running → Type 0 = λ r. OnOk c.ask_party.result (role_weight (to.Party n) (world_of r) + asked_weight r.registry (to.Party n) c.args.ask ≤ most_of r.registry.lasting) in
    let T : To → Type 0 = λ t. OnOk c.ask_party.result (role_weight t (world_of c.args.self.now) + asked_weight c.args.self.now.registry t c.args.ask ≤ most_of c.args.self.now.registry.lasting) in
    subst T (sym c.in-Party.is) (subst R c.self.view_is
    (rp_room c.ask_party.result c.self.inside.provider c.self.inside.parties.items was n found.0 (party_prepared was.registry n c.args.ask) c.self.invariant found.1 (c.ask_party.ensures.room found.0 found.1)))

pub returns-in-Party-clause-full : goal.returns-in-Party-clause-full
returns-in-Party-clause-full c =
    λ w is.
    (let was : Running = shown c.self.inside.transcript in
    let n : ℕ = c.in-Party.party in
    let found = rp_found c.self.inside.provider c.self.inside.parties.items was n c.self.invariant (party_low was c.args.self.now c.args.to n c.self.view_is c.in-Party.is c.requires.role) in
    let full = c.ask_party.ensures.full found.0 w found.1 is in
    let R : Running → Type 0 = λ r. (w ≡ role_weight (to.Party n) (world_of r)) × (most_of r.registry.lasting < w + asked_weight r.registry (to.Party n) c.args.ask) in
    let T : To → Type 0 = λ t. (w ≡ role_weight t (world_of c.args.self.now)) × (most_of c.args.self.now.registry.lasting < w + asked_weight c.args.self.now.registry t c.args.ask) in
    let M : ℕ → Type 0 = λ m. m < w + asked_weight was.registry (to.Party n) c.args.ask in
    subst T (sym c.in-Party.is) (subst R c.self.view_is (full.0 ∙ rp_weighs c.self.inside.provider c.self.inside.parties.items was n found.0 c.self.invariant found.1, subst M (rp_limit c.self.inside.provider c.self.inside.parties.items was n found.0 c.self.invariant found.1) full.1)))
