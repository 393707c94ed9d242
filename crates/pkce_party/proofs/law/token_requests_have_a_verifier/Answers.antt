use Rattle.pkce_party.proofs.Requesting.{have_a_verifier, only_with_a_verifier}
use Rattle.pkce_party.proofs.law.token_requests_have_a_verifier.Goals as goal

pub returns-clause-have : goal.returns-clause-have
returns-clause-have c = have_a_verifier

pub returns-clause-only : goal.returns-clause-only
returns-clause-only c = only_with_a_verifier
