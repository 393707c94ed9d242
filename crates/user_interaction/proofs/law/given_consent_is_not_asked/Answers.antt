use Rattle.user_interaction.proofs.Needing.{consent_is_wanted}
use Rattle.user_interaction.proofs.law.given_consent_is_not_asked.Goals as goal

pub returns : goal.returns
returns c = consent_is_wanted
