use Rattle.jws_compact.proofs.Written.{written_sealed, written_verdict}
use Rattle.jws_compact.proofs.law.written_texts_open.Goals as goal

pub returns-clause-sealed : goal.returns-clause-sealed
returns-clause-sealed c = written_sealed

pub returns-clause-opens : goal.returns-clause-opens
returns-clause-opens c = written_verdict
