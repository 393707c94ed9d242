use Rattle.discovery_doc.proofs.Documents as documents
use Rattle.discovery_doc.proofs.law.refused_documents_have_the_first_reason.Goals as goal

pub returns-clause-unread : goal.returns-clause-unread
returns-clause-unread c = documents.unread

pub returns-clause-refused : goal.returns-clause-refused
returns-clause-refused c = documents.refused

pub returns-clause-accepted : goal.returns-clause-accepted
returns-clause-accepted c = documents.accepted
