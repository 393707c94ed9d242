use Rattle.std.proofs.Common.{sym}
use Rattle.serving.proofs.serve_one.asked.Goals as goal

pub returns-then-not-takes-clause-err : goal.returns-then-not-takes-clause-err
returns-then-not-takes-clause-err g c = (c.in_ok-ask.ask, c.in_ok-ask.ensures.ok, sym c.if-not-takes.ensures)

pub returns-clause-ok : goal.returns-clause-ok
returns-clause-ok g c = (c.in_ok-ask.ensures.ok, sym c.if-not-takes.ensures)
