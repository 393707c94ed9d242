use Rattle.trace_lines.proofs.Seeds.{seed_spelled, spelled_seed}
use Rattle.trace_lines.proofs.law.headers_have_their_seeds.Goals as goal

pub returns : goal.returns
returns c = λ line seed. (seed_spelled line seed, spelled_seed line seed)
