use Rattle.auth_answer.proofs.OwnQueries.{own_query_ignored}
use Rattle.auth_answer.proofs.law.own_queries_are_ignored.Goals as goal

pub returns : goal.returns
returns c = own_query_ignored
