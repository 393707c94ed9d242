use Rattle.discovery_doc.proofs.Documents.{read_document, document_read}
use Rattle.discovery_doc.proofs.law.read_documents_have_the_metadata.Goals as goal

pub returns-clause-document : goal.returns-clause-document
returns-clause-document c = read_document

pub returns-clause-read : goal.returns-clause-read
returns-clause-read c = document_read
