use Rattle.command_line.proofs.Laws.{words_read, plain_read, range_read, written_read}
use Rattle.command_line.proofs.law.commands_are_read_as_they_are_written.Goals as goal

pub returns-clause-words : goal.returns-clause-words
returns-clause-words c = words_read

pub returns-clause-plain : goal.returns-clause-plain
returns-clause-plain c = plain_read

pub returns-clause-range : goal.returns-clause-range
returns-clause-range c = range_read

pub returns-clause-read : goal.returns-clause-read
returns-clause-read c = written_read
