-- Laws about authorization responses. Each is a clause of a function of `law.rt`, which says it in words.
use Rattle.std.specs.Prelude.{◌≡◌, ◌++◌, ℕ, List, false, codes, Option, Ok, option_and_then, IfSome}
use Rattle.std.specs.List.{list_any}
use Rattle.std.specs.Str.{IsUtf8}
use Rattle.sso_base.specs.Words.{Word, word_of_text}
use Rattle.sso_base.specs.Texts.{has_text}
use Rattle.registered_url.specs.Query.{form_names}
use Rattle.configuration_rows.specs.Rows.{answer_names}
use Rattle.auth_answer.specs.declared.answer.Answer.{Answer}
use Rattle.auth_answer.specs.Printing.{answer_form}
use Rattle.auth_answer.specs.Reading.{answer_read}
use Rattle.auth_answer.specs.Sent.{answer_heard, StatesWord}

-- ---- what is written is read

abbrev pub WrittenAnswersAreRead : Type 0
WrittenAnswersAreRead =
    (a : Answer) (state : Option Word) → StatesWord a.state state → IfSome a.id IsUtf8
    → answer_read (answer_form a) ≡ Ok (answer_heard a state)

abbrev pub WrittenAnswersAreReadWithAnyState : Type 0
WrittenAnswersAreReadWithAnyState =
    (a : Answer) → IfSome a.state IsUtf8 → IfSome a.id IsUtf8
    → answer_read (answer_form a) ≡ Ok (answer_heard a (option_and_then word_of_text a.state))

-- ---- the query of a redirect URI

abbrev pub OwnQueriesAreIgnored : Type 0
OwnQueriesAreIgnored =
    (query form : List ℕ) → list_any (λ name. has_text name answer_names) (form_names query) ≡ false
    → answer_read (query ++ codes "&" ++ form) ≡ answer_read form
