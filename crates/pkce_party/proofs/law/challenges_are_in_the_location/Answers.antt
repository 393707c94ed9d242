use Rattle.pkce_party.proofs.Sent.{in_the_location}
use Rattle.pkce_party.proofs.law.challenges_are_in_the_location.Goals as goal

pub returns : goal.returns
returns c = in_the_location
