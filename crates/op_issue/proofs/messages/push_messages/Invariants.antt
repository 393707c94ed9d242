use Rattle.std.proofs.Common.{◌≡◌, ◌++◌, drop}
use Rattle.op_issue.specs.LogoutMessages.{messages_from}
use Rattle.op_issue.proofs.messages.push_messages.Given as goal

-- the messages so far and those to the clients that are left are all
abbrev pub invariant-loop-client : goal.invariant-loop-client
invariant-loop-client l =
    l.messages ++ messages_from l.registry l.out l.answered l.client (drop l.client l.registry.clients) ≡ l.fn.messages ++ messages_from l.registry l.out l.answered 0 l.registry.clients
