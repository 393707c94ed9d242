use Rattle.std.proofs.Common.{refl}
use Rattle.honest_provider.proofs.Answering.{informs}
use Rattle.honest_provider.proofs.law.live_tokens_are_answered.Goals as goal

pub returns : goal.returns
returns c = λ k past e w token is room live. informs k past e w token (record { is = is; prepared = refl; room = room }) live
