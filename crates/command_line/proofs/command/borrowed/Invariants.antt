use Rattle.std.proofs.Common.{◌≡◌, ◌++◌, map, drop}
use Rattle.command_line.proofs.command.borrowed.Given as goal

-- the words so far, and those to come
abbrev pub invariant-loop-word : goal.invariant-loop-word
invariant-loop-word l = map (λ t. t.now) l.texts.items ++ drop l.word-index l.words ≡ l.words
