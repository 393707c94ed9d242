use Rattle.rp_response.proofs.ReplyLaws.{pages_are_alike, page_has_a_form, page_is_html}
use Rattle.rp_response.proofs.law.the_fragment_page_is_the_same_everywhere.Goals as goal

pub returns-clause-same : goal.returns-clause-same
returns-clause-same c = pages_are_alike

pub returns-clause-form : goal.returns-clause-form
returns-clause-form c = page_has_a_form

pub returns-clause-kind : goal.returns-clause-kind
returns-clause-kind c = page_is_html
