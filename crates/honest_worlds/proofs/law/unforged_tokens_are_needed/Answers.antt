use Rattle.honest_worlds.proofs.ForgedBeside.{not_without_unforged_tokens}
use Rattle.honest_worlds.proofs.law.unforged_tokens_are_needed.Goals as goal

pub returns : goal.returns
returns c = not_without_unforged_tokens
