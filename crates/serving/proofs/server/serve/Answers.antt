use Rattle.std.proofs.Common.{◌≤◌, ◌<◌, ◌^◌}
use Rattle.server_desk.specs.declared.desk.Desk.{Desk}
use Rattle.serving.proofs.Firsts.{hold}
use Rattle.serving.proofs.server.serve.Goals as goal

pub serve_desks-requires-clause-desks : goal.serve_desks-requires-clause-desks
serve_desks-requires-clause-desks g c κs within =
    hold (λ (desk : Desk g.row.D.Denot g.row.L.Denot g.row.C.Denot g.row.W.Denot). (desk.turns ≤ 2 ^ 56) × ((g.D.Door.state desk.door).given < 2 ^ 63))
    c.workers-workers.result c.args.desks.now.items c.keep_first-2.new.desks.items c.keep_first-2.ensures.items c.requires.desks
