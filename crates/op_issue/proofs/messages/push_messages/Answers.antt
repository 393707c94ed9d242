use Rattle.op_issue.proofs.MessagesTold.{step}
use Rattle.op_issue.proofs.messages.push_messages.Goals as goal

pub loop-client-preserved : goal.loop-client-preserved
loop-client-preserved c =
    step c.args.registry.now c.args.out.now c.args.answered.now c.loop-client.client c.client.result.now c.has.result c.loop-client.messages c.push_message.new.messages _ c.client.ensures c.has.ensures
    c.in_ok-push_message.ensures c.loop-client.invariant
