use Rattle.discovery_doc.proofs.Printed.{registry_read, printed_read}
use Rattle.discovery_doc.proofs.law.printed_metadata_is_read.Goals as goal

pub returns-clause-registry : goal.returns-clause-registry
returns-clause-registry c = registry_read

pub returns-clause-printable : goal.returns-clause-printable
returns-clause-printable c = printed_read
