use Rattle.discovery_doc.proofs.Documents.{names_the_issuer}
use Rattle.discovery_doc.proofs.law.read_documents_name_the_provider.Goals as goal

pub returns : goal.returns
returns c = names_the_issuer
