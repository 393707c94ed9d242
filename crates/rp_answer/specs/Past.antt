-- A relying party's past: a history with the newest pair first.
use Rattle.std.specs.Prelude.{List}
use Rattle.sso_base.specs.declared.history.Pair.{Pair}
use Rattle.rp_exchange.specs.declared.ask.RpAsk.{RpAsk}
use Rattle.rp_exchange.specs.declared.reply.RpReply.{RpReply}

abbrev pub RpPair : Type 0
RpPair = Pair RpAsk RpReply

abbrev pub RpPast : Type 0
RpPast = List RpPair
