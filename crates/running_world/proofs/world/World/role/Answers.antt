use Rattle.std.proofs.Common.{◌≡◌, Option, option_and_then, IfSome, sym, ap, ◌∙◌, subst}
use Rattle.sso_places.specs.declared.types.To.{To}
use Rattle.sso_places.specs.Legal.{IsRole}
use Rattle.sso_places.specs.World.{Place, place_at, role_at}
use Rattle.running_world.specs.Running.{Running, world_of, kept_at}
use Rattle.running_world.specs.Transcribed.{Transcribed}
use Rattle.running_world.specs.Worlds.{shown}
use Rattle.running_world.proofs.Keeping.{place_kept, roles, roles_known}
use Rattle.running_world.proofs.world.World.role.Goals as goal

-- by what is kept inside
role_is : (c : goal.After-role) → c.role.result ≡ option_and_then role_at (place_at (world_of (shown c.self.inside.transcript)) c.args.place)
role_is c =
    let t : Transcribed = c.self.inside.transcript in
    let F : Option Place → Option To = option_and_then role_at in
    c.role.ensures.role
    ∙ sym (ap F (place_kept t.registry t.kept c.args.place) ∙ roles t.registry (kept_at t.kept c.args.place) c.role.ensures.whole)

pub returns-clause-role : goal.returns-clause-role
returns-clause-role c =
    role_is c ∙ ap (λ (r : Running). option_and_then role_at (place_at (world_of r) c.args.place)) c.self.view_is

pub returns-clause-known : goal.returns-clause-known
returns-clause-known c =
    let r : Running = shown c.self.inside.transcript in
    let known : IfSome c.role.result (IsRole r.registry) =
    subst (λ (o : Option To). IfSome o (IsRole r.registry)) (sym (role_is c)) (roles_known r.registry (world_of r) c.args.place c.self.invariant.legal.asked) in
    subst (λ (now : Running). IfSome c.role.result (IsRole now.registry)) c.self.view_is known
