use Rattle.std.proofs.Common.{Option, option_map, sym, ap, ◌∙◌}
use Rattle.sso_places.specs.declared.types.WorldReply.{WorldReply}
use Rattle.sso_places.specs.World.{Place, place_at, reply_at}
use Rattle.running_world.specs.Running.{Running, world_of, kept_at}
use Rattle.running_world.specs.Transcribed.{Transcribed}
use Rattle.running_world.proofs.Keeping.{place_kept, replies}
use Rattle.running_world.proofs.world.World.reply.Goals as goal

pub returns : goal.returns
returns c =
    let t : Transcribed = c.self.inside.transcript in
    let F : Option Place → Option WorldReply = option_map reply_at in
    c.reply.ensures.reply
    ∙ sym (ap F (place_kept t.registry t.kept c.args.place) ∙ replies t.registry (kept_at t.kept c.args.place) c.reply.ensures.whole)
    ∙ ap (λ (r : Running). F (place_at (world_of r) c.args.place)) c.self.view_is
