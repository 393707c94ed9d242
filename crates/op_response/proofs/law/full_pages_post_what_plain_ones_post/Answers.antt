use Rattle.op_response.proofs.PostedForms.{login_pages_post, consent_pages_post}
use Rattle.op_response.proofs.law.full_pages_post_what_plain_ones_post.Goals as goal

pub returns-clause-login : goal.returns-clause-login
returns-clause-login c = login_pages_post

pub returns-clause-consent : goal.returns-clause-consent
returns-clause-consent c = consent_pages_post
