use Rattle.std.proofs.Common.{ℕ, Option, option_map, sym, ap, ◌∙◌}
use Rattle.sso_places.specs.World.{Place, place_at, from_of}
use Rattle.running_world.specs.Running.{Running, world_of, kept_at}
use Rattle.running_world.specs.Transcribed.{Transcribed}
use Rattle.running_world.proofs.Keeping.{place_kept, numbers}
use Rattle.running_world.proofs.world.World.from.Goals as goal

pub returns : goal.returns
returns c =
    let t : Transcribed = c.self.inside.transcript in
    let F : Option Place → Option ℕ = option_map from_of in
    c.from.ensures.from
    ∙ sym (ap F (place_kept t.registry t.kept c.args.place) ∙ numbers t.registry (kept_at t.kept c.args.place) c.from.ensures.whole)
    ∙ ap (λ (r : Running). F (place_at (world_of r) c.args.place)) c.self.view_is
