use Rattle.pkce_party.proofs.Requesting.{of_its_login}
use Rattle.pkce_party.proofs.law.verifiers_are_of_their_login.Goals as goal

pub returns : goal.returns
returns c = of_its_login
