-- The values of `prompt` (OpenID Connect Core 1.0, 3.1.2.1).
use Rattle.std.specs.Prelude.{Bool, ◌||◌, List, [], ◌∷◌, codes}
use Rattle.sso_base.specs.Words.{Text}
use Rattle.oidc_words.specs.declared.prompts.Prompt.{Prompt}
use Rattle.sso_base.specs.Texts.{has_text}
use Rattle.oidc_words.specs.Words.{has_other, words_of, are_words}

abbrev pub none_word : Text
none_word = codes "none"

abbrev pub login_word : Text
login_word = codes "login"

abbrev pub consent_word : Text
consent_word = codes "consent"

abbrev pub account_word : Text
account_word = codes "select_account"

-- all of them, in order
abbrev pub prompt_words : List Text
prompt_words = none_word ∷ login_word ∷ consent_word ∷ account_word ∷ []

-- the text consists of values of `prompt`, each at most once
abbrev pub is_prompt : Text → Bool
is_prompt t = are_words prompt_words (words_of t)

-- the values of `prompt` among words. `select_account` counts as `login` (our choice); an unknown value counts only as
-- `others`.
abbrev pub prompt_among : List Text → Prompt
prompt_among ws =
    record {
      none = has_text none_word ws;
      others = has_other none_word ws;
      login = has_text login_word ws || has_text account_word ws;
      consent = has_text consent_word ws;
    }
