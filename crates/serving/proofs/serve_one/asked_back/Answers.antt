use Rattle.std.proofs.Common.{sym}
use Rattle.std.proofs.lemmas.Result.{err_from_is_err_and}
use Rattle.serving.proofs.Asking.{answered, answered_too_large, answered_no_memory, unanswered}
use Rattle.serving.proofs.serve_one.asked_back.Goals as goal

-- src/serve_one.rt:80:18
pub returns-in_err-answer : goal.returns-in_err-answer
returns-in_err-answer g c =
    let p = err_from_is_err_and c.from_residual.result c.from_residual.ensures.1 in
    rw (p.1, p.2) (unanswered (g.X.Role.manner c.args.role.now) (g.L.Link.state c.args.link.now) (g.L.Link.state c.answer_to.new.link) c.args.reply.now c.args.question.now c.in_err-answer.field-0.0 c.requires.question c.in_err-answer.ensures)

-- src/serve_one.rt:81:8
pub returns-in_err-ask : goal.returns-in_err-ask
returns-in_err-ask g c =
    let p = err_from_is_err_and c.from_residual-in_err-ask.result c.from_residual-in_err-ask.ensures.1 in
    rw (p.1, p.2) (answered_no_memory (g.X.Role.manner c.args.role.now) (g.L.Link.state c.args.link.now) (g.L.Link.state c.answer_to.new.link) c.args.reply.now c.args.question.now c.in_ok-answer.answer c.requires.question c.in_ok-answer.ensures)

-- src/serve_one.rt:69:1
pub returns : goal.returns
returns g c =
    answered (g.X.Role.manner c.args.role.now) (g.L.Link.state c.args.link.now) (g.L.Link.state c.answer_to.new.link) c.args.reply.now c.args.question.now c.in_ok-answer.answer c.in_ok-ask.ask c.requires.question c.in_ok-answer.ensures c.in_ok-ask.ensures (sym c.if-not-takes.ensures)

pub returns-then-not-takes : goal.returns-then-not-takes
returns-then-not-takes g c =
    answered_too_large (g.X.Role.manner c.args.role.now) (g.L.Link.state c.args.link.now) (g.L.Link.state c.answer_to.new.link) c.args.reply.now c.args.question.now c.in_ok-answer.answer c.in_ok-ask.ask c.requires.question c.in_ok-answer.ensures c.in_ok-ask.ensures (sym c.if-not-takes.ensures)
