use Rattle.auth_request.proofs.Reaching.{not_shown}
use Rattle.auth_request.proofs.Judgements.{refused_there, granted_there, two_pages}
use Rattle.auth_request.proofs.law.answers_go_to_registered_uris.Goals as goal

pub returns-clause-refused : goal.returns-clause-refused
returns-clause-refused c = refused_there

pub returns-clause-granted : goal.returns-clause-granted
returns-clause-granted c = granted_there

pub returns-clause-shown : goal.returns-clause-shown
returns-clause-shown c = not_shown

pub returns-clause-pages : goal.returns-clause-pages
returns-clause-pages c = two_pages
