use Rattle.sso_base.proofs.Answering.{if_answered, only_memory, only_answer}
use Rattle.discovery_doc.specs.declared.no.DiscNo.TheVariants.{NoMemory}
use Rattle.discovery_doc.specs.Document.{IsDocument}
use Rattle.discovery_doc.specs.Reading.{discovery_read}
use Rattle.discovery_doc.proofs.Documents.{read_document, document_read}
use Rattle.discovery_doc.proofs.reading.read_discovery.Goals as goal

pub returns-clause-document : goal.returns-clause-document
returns-clause-document c =
    if_answered (discovery_read c.args.issuer.now c.args.bytes.now) (IsDocument c.args.issuer.now c.args.bytes.now) (read_document c.args.issuer.now c.args.bytes.now) c.judged.result c.judged.ensures.ok

pub returns-clause-accepts : goal.returns-clause-accepts
returns-clause-accepts c = λ p d. only_memory NoMemory (discovery_read c.args.issuer.now c.args.bytes.now) p (document_read c.args.issuer.now c.args.bytes.now p d) c.judged.result c.judged.ensures.err

pub returns-clause-value : goal.returns-clause-value
returns-clause-value c = λ p d. only_answer (discovery_read c.args.issuer.now c.args.bytes.now) p (document_read c.args.issuer.now c.args.bytes.now p d) c.judged.result c.judged.ensures.ok
