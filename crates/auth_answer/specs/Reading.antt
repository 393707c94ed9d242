-- Reading an authorization response: its parts are the pairs of a form (OpenID Connect Core 1.0, 3.1.2.5, 3.1.2.6, 3.2.2.5 and
-- 3.3.2.5; RFC 6749, 4.1.2, 4.1.2.1, 4.2.2 and 4.2.2.1). Pairs with other names are ignored, and no name may occur twice. A
-- part with an empty value is present.
use Rattle.std.specs.Prelude.{◌≡◌, ℕ, Bool, List, codes, filter, Option, Some, option_map, option_and_then, Result, IfSome}
use Rattle.std.specs.Str.{IsUtf8}
use Rattle.sso_base.specs.Lists.{Has}
use Rattle.sso_base.specs.Words.{Word, Text, IsWord, word_text, word_of_text}
use Rattle.sso_base.specs.Texts.{has_text}
use Rattle.configuration_rows.specs.Rows.{answer_names}
use Rattle.request_params.specs.Form.{Pair, form_pairs}
use Rattle.request_params.specs.Reading.{value_of, first_repeated, unless_twice, StandOnce, RepeatsFirst}
use Rattle.auth_answer.specs.declared.heard.Heard.{Heard}
use Rattle.auth_answer.specs.declared.no.AnswerNo.{AnswerNo}
use Rattle.auth_answer.specs.declared.no.AnswerNo.TheVariants.{Twice, NoMemory}
use Rattle.oidc_words.specs.Errors.{error_of, SaysError}

-- the name is one of `state`, `error`, `code`, `access_token` and `id_token`
abbrev pub names_part : Pair → Bool
names_part pair = has_text pair.0 answer_names

-- the pairs of a form that have one of these names, in order
abbrev pub heard_pairs : List ℕ → List Pair
heard_pairs form = filter names_part (form_pairs form)

-- the parts in the pairs; a state that is not the text of a word is absent
abbrev pub heard_in : List Pair → Heard
heard_in pairs =
    record {
      state = option_and_then word_of_text (value_of (codes "state") pairs);
      error = option_map error_of (value_of (codes "error") pairs);
      code = value_of (codes "code") pairs;
      access = value_of (codes "access_token") pairs;
      id = value_of (codes "id_token") pairs;
    }

abbrev pub unless_repeated : Option Text → Heard → Result Heard AnswerNo
unless_repeated repeated heard = unless_twice Twice repeated heard

abbrev pub pairs_read : List Pair → Result Heard AnswerNo
pairs_read pairs = unless_repeated (first_repeated pairs) (heard_in pairs)

-- the response in a form, or its error
unfoldable pub answer_read : List ℕ → Result Heard AnswerNo
answer_read form = pairs_read (heard_pairs form)

-- ---- the same, stated literally

-- the text is that of this word
abbrev pub SaysWord : Text → Word → Type 0
SaysWord t word = (t ≡ word_text word) × IsWord word

abbrev pub SaysText : Text → Text → Type 0
SaysText t text = t ≡ text

-- the part is present if and only if a pair with this name has a value that states something, and it is what the value states
pub record IsPart {A : Type 0} (pairs : List Pair) (name : Text) (Says : Text → A → Type 0) (part : Option A) : Type 0 where
  pub stands : (a : A) → part ≡ Some a → (value : Text) × Has pairs (name, value) × Says value a
  pub all : (value : Text) (a : A) → Has pairs (name, value) → Says value a → part ≡ Some a

-- the form has these parts, and no name occurs twice in it
pub record HasAnswer (form : List ℕ) (heard : Heard) : Type 0 where
  pub once : StandOnce (heard_pairs form)
  pub state : IsPart (heard_pairs form) (codes "state") SaysWord heard.state
  pub error : IsPart (heard_pairs form) (codes "error") SaysError heard.error
  pub code : IsPart (heard_pairs form) (codes "code") SaysText heard.code
  pub access : IsPart (heard_pairs form) (codes "access_token") SaysText heard.access
  pub id : IsPart (heard_pairs form) (codes "id_token") SaysText heard.id

-- the causes of each error of reading: the first repeated name, and no other
abbrev pub RefusesAnswer : List ℕ → AnswerNo → Type 0
RefusesAnswer form (Twice name) = RepeatsFirst (heard_pairs form) name
RefusesAnswer form NoMemory = ⊥

-- the state, if present, is a word, and the texts that are present are in UTF-8
pub record IsHeard (heard : Heard) : Type 0 where
  pub state : IfSome heard.state IsWord
  pub code : IfSome heard.code IsUtf8
  pub access : IfSome heard.access IsUtf8
  pub id : IfSome heard.id IsUtf8
