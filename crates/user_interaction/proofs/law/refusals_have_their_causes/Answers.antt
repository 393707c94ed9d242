use Rattle.user_interaction.proofs.Needing.{refusal_has_its_cause}
use Rattle.user_interaction.proofs.law.refusals_have_their_causes.Goals as goal

pub returns : goal.returns
returns c = refusal_has_its_cause
