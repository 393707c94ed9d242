-- The provider's past: a history with the newest pair first.
use Rattle.std.specs.Prelude.{List}
use Rattle.sso_base.specs.declared.history.Pair.{Pair}
use Rattle.op_exchange.specs.declared.ask.OpAsk.{OpAsk}
use Rattle.op_exchange.specs.declared.reply.OpReply.{OpReply}

abbrev pub OpPair : Type 0
OpPair = Pair OpAsk OpReply

abbrev pub OpPast : Type 0
OpPast = List OpPair
