use Rattle.std.proofs.Common.{◌≡◌, take}
use Rattle.sso_base.proofs.messages.Messages.copy.Given as goal

-- the messages so far
abbrev pub invariant-loop-message : goal.invariant-loop-message
invariant-loop-message l = l.copied ≡ take l.message-index l.message-items
