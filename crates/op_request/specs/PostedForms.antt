-- The forms that the provider's own pages post: the login form and the consent form. Fields with other names are ignored, an
-- absent field is empty, and no name of the form may occur twice, with any values.
use Rattle.std.specs.Prelude.{ℕ, Bool, nat_lt, List, [], ◌∷◌, length, filter, Option, unwrap_or}
use Rattle.std.specs.List.{list_any}
use Rattle.std.specs.Str.{bytes_eq}
use Rattle.sso_base.specs.Words.{Text}
use Rattle.request_params.specs.Form.{Pair, form_pairs, posted}
use Rattle.request_params.specs.Reading.{value_of}
use Rattle.op_exchange.specs.Fields.{turn_field, user_field, password_field, agree_field}

abbrev pub login_names : List Text
login_names = turn_field ∷ user_field ∷ password_field ∷ []

abbrev pub consent_names : List Text
consent_names = turn_field ∷ agree_field ∷ []

-- the fields of the form that was posted
abbrev pub fields_of : Option (List ℕ) → List Pair
fields_of body = form_pairs (posted body)

-- how many fields have the name
abbrev pub count : Text → List Pair → ℕ
count name fields = length (filter (λ (field : Pair). bytes_eq field.0 name) fields)

abbrev pub stands_twice : Text → List Pair → Bool
stands_twice name fields = nat_lt 1 (count name fields)

-- one of the names occurs twice
abbrev pub repeats_one : List Text → List Pair → Bool
repeats_one names fields = list_any (λ name. stands_twice name fields) names

-- the value of the field of this name
abbrev pub field : Text → List Pair → Text
field name fields = unwrap_or (value_of name fields) []
