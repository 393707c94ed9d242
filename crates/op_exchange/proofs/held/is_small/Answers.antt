use Rattle.std.proofs.Common.{ℕ, nat_le, ap, ◌∙◌, arith}
use Rattle.sso_base.specs.Weights.{most_held}
use Rattle.sso_base.proofs.Limits.{told_within}
use Rattle.op_exchange.specs.Held.{held_bytes}
use Rattle.op_exchange.proofs.held.is_small.Goals as goal

pub returns : goal.returns
returns c = ap (λ (n : ℕ). nat_le n most_held) c.held_bytes.ensures ∙ told_within (held_bytes c.args.ask.now) most_held (omega arith)
