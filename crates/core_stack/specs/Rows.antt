-- The rows of turns and codes that have a mark: the word that names each, and the moment it begins.
use Rattle.std.specs.Prelude.{ℕ}
use Rattle.sso_base.specs.Words.{Word}
use Rattle.core_stack.specs.declared.marks.TurnMark.{TurnMark}
use Rattle.core_stack.specs.declared.marks.CodeMark.{CodeMark}

abbrev pub turn_mark_name : {M : Type 0} → TurnMark M → Word
turn_mark_name row = row.turn

abbrev pub turn_mark_begun : {M : Type 0} → TurnMark M → ℕ
turn_mark_begun row = row.begun

abbrev pub code_mark_name : {M : Type 0} → CodeMark M → Word
code_mark_name row = row.code

abbrev pub code_mark_begun : {M : Type 0} → CodeMark M → ℕ
code_mark_begun row = row.issued
