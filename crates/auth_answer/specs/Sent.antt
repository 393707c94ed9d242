-- Successful and error responses as they are received.
use Rattle.std.specs.Prelude.{◌≡◌, Option, Some, None, option_map, IfSome}
use Rattle.sso_base.specs.Words.{Word, Text, IsWord, word_text}
use Rattle.oidc_words.specs.declared.errors.Refusal.{Refusal}
use Rattle.auth_answer.specs.declared.answer.Answer.{Answer}
use Rattle.auth_answer.specs.declared.heard.Heard.{Heard}

-- the parts of the response, with this word as its state, and no error
abbrev pub answer_heard : Answer → Option Word → Heard
answer_heard answer state =
    record {
      state = state;
      error = None;
      code = option_map word_text answer.code;
      access = option_map word_text answer.access;
      id = answer.id;
    }

-- the code of the error response, with this word as its state, and nothing else
abbrev pub refusal_heard : Refusal → Option Word → Heard
refusal_heard refusal state = record { state = state; error = Some refusal.code; code = None; access = None; id = None }

-- the state is the text of this word, or both are absent
abbrev pub StatesWord : Option Text → Option Word → Type 0
StatesWord state word = (state ≡ option_map word_text word) × IfSome word IsWord
