use Rattle.std.proofs.Common.{◌≡◌, ◌≤◌, List, length}
use Rattle.turn_store.specs.Passes.{IsPassOf, number_of, front_of, setup_of}
use Rattle.serving.specs.Work.{MadeAll}
use Rattle.serving.specs.Working.{Service, steps_in, AtDesk}
use Rattle.serving.proofs.work.serve_desk.Given as goal

abbrev pub invariant-loop-served : goal.invariant-loop-served
invariant-loop-served g l =
    IsPassOf g.X.Core.Core.setup g.X.Core.Core.is_legal l.backend.store.now l.pass
    × (number_of l.pass ≡ number_of l.initial.pass)
    × (l.desk.turns ≡ l.initial.desk.turns)
    × ((g.D.Door.state l.desk.door).place ≡ (g.D.Door.state l.initial.desk.door).place)
    × (g.D.Door.closings l.initial.desk.door ≤ g.D.Door.closings l.desk.door)
    × (g.D.Door.faults l.initial.desk.door ≤ g.D.Door.faults l.desk.door)
    × ((services : List (Service g.row.D-Source.Denot g.row.D-Sink.Denot g.row.X-Core-Ask.Denot g.row.X-Core-Reply.Denot))
    × MadeAll l.initial.pass l.pass (steps_in services)
    × AtDesk (g.X.Role.manner l.backend.role.now) (g.X.Core.Core.most (setup_of g.X.Core.Core.setup l.backend.store.now)) g.D.Source.Source.left g.D.Source.Source.faults g.D.Sink.Sink.taken g.D.Sink.Sink.faults (front_of l.pass) (g.D.Door.state l.initial.desk.door) (g.D.Door.state l.desk.door) (g.L.Link.state l.initial.desk.tools.link) (g.L.Link.state l.desk.tools.link) (g.C.Clock.ahead l.initial.desk.tools.clock) (g.C.Clock.ahead l.desk.tools.clock) (g.W.Draw.ahead l.initial.desk.tools.draw) (g.W.Draw.ahead l.desk.tools.draw) services
    × (length services ≡ l.served))
