use Rattle.std.proofs.Common.{◌≡◌, drop}
use Rattle.std.specs.List.{list_all}
use Rattle.command_line.specs.Commands.{is_plain}
use Rattle.command_line.proofs.command.are_plain.Given as goal

abbrev pub invariant-loop-word : goal.invariant-loop-word
invariant-loop-word l = list_all is_plain (drop l.word-index l.words) ≡ list_all is_plain l.words
