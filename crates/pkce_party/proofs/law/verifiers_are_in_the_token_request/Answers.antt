use Rattle.pkce_party.proofs.Sent.{in_the_body}
use Rattle.pkce_party.proofs.law.verifiers_are_in_the_token_request.Goals as goal

pub returns : goal.returns
returns c = in_the_body
