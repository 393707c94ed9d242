use Rattle.serving.proofs.MemoryLine.{told_of_memory}
use Rattle.serving.proofs.writing.write_memory.Goals as goal

-- src/writing.rt:28:1
pub returns-clause-wrote : goal.returns-clause-wrote
returns-clause-wrote g c = rw told_of_memory c.write_end.ensures.wrote
