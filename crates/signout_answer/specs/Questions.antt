-- The questions that wait for the user, as rows.
use Rattle.std.specs.Prelude.{ℕ, List, Option, Some, None, option_and_then, if◌then◌else◌}
use Rattle.sso_base.specs.Words.{Word, is_word}
use Rattle.sso_base.specs.Rows.{row_of, if_lives}
use Rattle.oidc_words.specs.Lives.{question_life}
use Rattle.signout_answer.specs.declared.questions.QuestionRow.{QuestionRow}

abbrev pub question_name : QuestionRow → Word
question_name row = row.word

abbrev pub question_begun : QuestionRow → ℕ
question_begun row = row.begun

-- the question of a word, if it waits at a moment
abbrev pub held_in : ℕ → Option Word → List QuestionRow → Option QuestionRow
held_in at w rows = option_and_then (if_lives question_life question_begun at) (option_and_then (λ v. row_of question_name v rows) w)

-- a row stays, unless its question ended
abbrev pub unless_ended : Option Word → QuestionRow → Option QuestionRow
unless_ended ended row = if is_word ended row.word then None else Some row
