use Rattle.rp_request.proofs.Routing.{page_wanted, page_asked}
use Rattle.rp_request.proofs.law.the_page_is_asked_for_without_a_query.Goals as goal

pub returns-clause-wanted : goal.returns-clause-wanted
returns-clause-wanted c = page_wanted

pub returns-clause-asked : goal.returns-clause-asked
returns-clause-asked c = page_asked
