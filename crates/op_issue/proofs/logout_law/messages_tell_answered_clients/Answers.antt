use Rattle.op_issue.proofs.MessagesTold.{among_tells, tells_among, told_in_order}
use Rattle.op_issue.proofs.logout_law.messages_tell_answered_clients.Goals as goal

pub returns-clause-told : goal.returns-clause-told
returns-clause-told c = λ d out answered message. (among_tells d out answered message, tells_among d out answered message)

pub returns-clause-in_order : goal.returns-clause-in_order
returns-clause-in_order c = told_in_order
