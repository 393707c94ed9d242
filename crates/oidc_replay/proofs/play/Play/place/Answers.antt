use Rattle.std.proofs.Common.{◌≡◌, Option, IfSome, sym, ap, ◌∙◌, subst}
use Rattle.client_registry.specs.Configuration.{Configuration}
use Rattle.sso_places.specs.Legal.{IsRole}
use Rattle.running_world.specs.Running.{Running, world_of}
use Rattle.web_requests.specs.declared.sent.Sent.{Sent}
use Rattle.oidc_replay.specs.Sending.{NamesRole}
use Rattle.oidc_replay.specs.Play.{Playing}
use Rattle.oidc_replay.proofs.Played.{IsSent, IsKnown, lines_send}
use Rattle.oidc_replay.proofs.play.Play.place.Goals as goal

-- what the line sends
sent_is : (c : goal.After-ask-arg-1) → IsSent (IsKnown c.self.inside.world.registry (world_of c.self.inside.world) c.args.line.now) c.self.inside.world.registry (world_of c.self.inside.world) c.in-Some.sent
sent_is c =
    let r : Running = c.self.inside.world in
    subst (λ (o : Option Sent). IfSome o (IsSent (IsKnown r.registry (world_of r) c.args.line.now) r.registry (world_of r)))
    (sym c.in_ok-sent.ensures ∙ c.in-Some.is)
    (lines_send r.registry (world_of r) r.jars c.args.line.now)

pub ask-requires-clause-role : goal.ask-requires-clause-role
ask-requires-clause-role c =
    let same : c.self.inside.world.registry ≡ c.args.self.now.running.registry = ap (λ (p : Playing). p.running.registry) c.self.view_is in
    let names : NamesRole c.self.inside.world.registry c.args.line.now = subst (λ (d : Configuration). NamesRole d c.args.line.now) (sym same) c.requires.role in
    subst (λ (d : Configuration). IsRole d c.in-Some.sent.to) same ((sent_is c).role (names, c.theorem.ensures.legal.asked))

pub ask-requires-clause-ask : goal.ask-requires-clause-ask
ask-requires-clause-ask c = (sent_is c).asks
