-- No ask weighs less than one that holds no texts.
use Rattle.std.proofs.Common.{◌≤◌, ℕ, ◌+◌, arith}
use Rattle.sso_base.specs.Weights.{empty_weight}
use Rattle.rp_exchange.specs.declared.ask.RpAsk.{RpAsk}
use Rattle.rp_exchange.specs.Weight.{ask_weight, ask_bytes}

least : (n : ℕ) → empty_weight ≤ empty_weight + n
least n = omega arith

pub least_weight : (asked : RpAsk) → empty_weight ≤ ask_weight asked
least_weight asked = least (ask_bytes asked)
