use Rattle.std.proofs.Common.{ℕ, nat_le, ap, ◌∙◌, arith}
use Rattle.sso_base.specs.Weights.{most_held}
use Rattle.sso_base.proofs.Limits.{told_within}
use Rattle.signout_answer.specs.Answering.{wish_held}
use Rattle.rp_signout.proofs.deciding.is_little.Goals as goal

pub returns : goal.returns
returns c = ap (λ (n : ℕ). nat_le n most_held) c.wish_held.ensures ∙ told_within (wish_held c.args.wish.now) most_held (omega arith)
