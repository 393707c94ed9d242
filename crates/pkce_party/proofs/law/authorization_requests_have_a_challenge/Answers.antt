use Rattle.pkce_party.proofs.Requesting.{have_a_challenge, only_with_a_challenge}
use Rattle.pkce_party.proofs.law.authorization_requests_have_a_challenge.Goals as goal

pub returns-clause-have : goal.returns-clause-have
returns-clause-have c = have_a_challenge

pub returns-clause-only : goal.returns-clause-only
returns-clause-only c = only_with_a_challenge
