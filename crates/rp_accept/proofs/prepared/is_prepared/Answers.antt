use Rattle.std.proofs.Common.{Bool, sym, ◌∙◌, ap}
use Rattle.rp_exchange.specs.declared.ask.RpAsk.{RpAsk}
use Rattle.rp_exchange.specs.Asks as spec
use Rattle.rp_accept.proofs.prepared.is_prepared.Goals as goal

pub returns-in-Tokens : goal.returns-in-Tokens
returns-in-Tokens c =
    let P : RpAsk → Bool = λ a. spec.is_prepared a in
    c.is_token_answer.ensures c.in-Tokens.pending ∙ ap P (sym c.in-Tokens.is)
