use Rattle.pkce_party.specs.Inside.{past_inside, inner_is_legal}
use Rattle.pkce_party.proofs.law.inner_histories_are_legal.Goals as goal

pub returns-clause-past : goal.returns-clause-past
returns-clause-past c = past_inside

pub returns-clause-history : goal.returns-clause-history
returns-clause-history c = inner_is_legal
