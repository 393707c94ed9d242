-- The parameters of a response as texts, added from the pairs of a form one after another.
use Rattle.std.specs.Prelude.{List, [], ◌∷◌, codes, find, Option, None, option_map, option_and_then, Result, if◌then◌else◌}
use Rattle.std.specs.Str.{bytes_eq}
use Rattle.sso_base.specs.Words.{Text, word_of_text}
use Rattle.request_params.specs.Form.{Pair}
use Rattle.request_params.specs.Reading.{value_of}
use Rattle.request_params.specs.OnePair.{with_first, with_each}
use Rattle.auth_answer.specs.declared.parts.PartName.{PartName}
use Rattle.auth_answer.specs.declared.parts.PartName.TheVariants.{State, Error, Code, AccessToken, IdToken}
use Rattle.auth_answer.specs.declared.parts.Parts.{Parts}
use Rattle.auth_answer.specs.declared.heard.Heard.{Heard}
use Rattle.auth_answer.specs.declared.no.AnswerNo.{AnswerNo}
use Rattle.auth_answer.specs.declared.no.AnswerNo.TheVariants.{Twice}
use Rattle.oidc_words.specs.Errors.{error_of}

-- the text of a parameter name
abbrev pub part_text : PartName → Text
part_text State = codes "state"
part_text Error = codes "error"
part_text Code = codes "code"
part_text AccessToken = codes "access_token"
part_text IdToken = codes "id_token"

abbrev pub part_names : List PartName
part_names = State ∷ Error ∷ Code ∷ AccessToken ∷ IdToken ∷ []

-- the name with this text
abbrev pub part_name_of : Text → Option PartName
part_name_of t = find (λ name. bytes_eq t (part_text name)) part_names

-- the parameter of a name, if it is present
abbrev pub part_of : PartName → Parts → Option Text
part_of State parts = parts.state
part_of Error parts = parts.error
part_of Code parts = parts.code
part_of AccessToken parts = parts.access
part_of IdToken parts = parts.id

-- the parameters that f gives, name by name
abbrev pub parts_by : (PartName → Option Text) → Parts
parts_by f = record { state = f State; error = f Error; code = f Code; access = f AccessToken; id = f IdToken }

-- no parameter is present
abbrev pub no_parts : Parts
no_parts = parts_by (λ _. None)

-- the parameters after the one with this name is replaced
abbrev pub with_part : PartName → Option Text → Parts → Parts
with_part name value parts = parts_by (λ other. if bytes_eq (part_text name) (part_text other) then value else part_of other parts)

-- the parameters in the pairs
abbrev pub parts_in : List Pair → Parts
parts_in pairs = parts_by (λ name. value_of (part_text name) pairs)

-- the response that the parameters make up
abbrev pub heard_of_parts : Parts → Heard
heard_of_parts parts =
    record {
      state = option_and_then word_of_text parts.state;
      error = option_map error_of parts.error;
      code = parts.code;
      access = parts.access;
      id = parts.id;
    }

-- ---- one more pair, and several

abbrev pub with_pair : Parts → Pair → Result Parts AnswerNo
with_pair parts pair = with_first part_of with_part Twice (part_name_of pair.0) parts pair

abbrev pub with_pairs : Parts → List Pair → Result Parts AnswerNo
with_pairs parts pairs = with_each with_pair parts pairs
