-- Reading an authorization request: its parameters are the pairs of a form (OpenID Connect Core 1.0, 3.1.2.1; RFC 6749, 3.1).
-- Pairs with other names or with empty values are ignored, and no name may occur twice.
use Rattle.std.specs.Prelude.{◌≡◌, ℕ, Bool, ◌&&◌, List, [], ◌∷◌, ◌++◌, length, filter, nat_lt, Option, Some, None, is_some}
use Rattle.std.specs.Prelude.{Result, Ok, Err, IsTrue, IsFalse, ⊤, if◌then◌else◌}
use Rattle.std.specs.List.{list_any}
use Rattle.std.specs.Str.{bytes_eq}
use Rattle.sso_base.specs.Words.{Text}
use Rattle.sso_base.specs.Lists.{Has}
use Rattle.request_params.specs.declared.params.Params.{Params}
use Rattle.request_params.specs.declared.name.ParamName.{ParamName}
use Rattle.request_params.specs.declared.no.AskNo.{AskNo}
use Rattle.request_params.specs.declared.no.AskNo.TheVariants.{Twice, Differs, OuterScope, NoMemory}
use Rattle.request_params.specs.Names.{name_text, name_of, param_of, params_by}
use Rattle.request_params.specs.Form.{Pair, form_pairs}

-- ---- the pairs that count

-- the name is that of a parameter, and the value is not empty
abbrev pub is_kept : Pair → Bool
is_kept pair = is_some (name_of pair.0) && nat_lt 0 (length pair.1)

-- the pairs of a form that are kept, in order
abbrev pub kept_pairs : List ℕ → List Pair
kept_pairs form = filter is_kept (form_pairs form)

-- one of the pairs has the name
abbrev pub has_name : Text → List Pair → Bool
has_name name pairs = list_any (λ pair. bytes_eq pair.0 name) pairs

-- the value of the pair that has the name
abbrev pub value_of : Text → List Pair → Option Text
value_of name [] = None
value_of name (pair ∷ pairs) = if bytes_eq pair.0 name then Some pair.1 else value_of name pairs

-- the name of the first of the pairs that repeats an earlier name; the pairs `before` precede them
abbrev pub repeated_after : List Pair → List Pair → Option Text
repeated_after before [] = None
repeated_after before (pair ∷ pairs) = if has_name pair.0 before then Some pair.0 else repeated_after (before ++ pair ∷ []) pairs

-- the first name that is repeated
abbrev pub first_repeated : List Pair → Option Text
first_repeated pairs = repeated_after [] pairs

-- the parameters in the pairs
abbrev pub params_in : List Pair → Params
params_in pairs = params_by (λ name. value_of (name_text name) pairs)

-- what pairs give, unless a name is repeated
abbrev pub unless_twice : {A E : Type 0} → (Text → E) → Option Text → A → Result A E
unless_twice twice None given = Ok given
unless_twice twice (Some name) given = Err (twice name)

abbrev pub unless_repeated : Option Text → Params → Result Params AskNo
unless_repeated repeated params = unless_twice Twice repeated params

abbrev pub pairs_read : List Pair → Result Params AskNo
pairs_read pairs = unless_repeated (first_repeated pairs) (params_in pairs)

-- the request in a form, or its error
unfoldable pub request_read : List ℕ → Result Params AskNo
request_read form = pairs_read (kept_pairs form)

-- ---- the same, stated literally

-- two pairs have the name
pub record StandsTwice (name : Text) (pairs : List Pair) : Type 0 where
  pub before : List Pair
  pub first : Text
  pub between : List Pair
  pub second : Text
  pub after : List Pair
  pub cut : pairs ≡ before ++ (name, first) ∷ (between ++ (name, second) ∷ after)

-- no name occurs twice
abbrev pub StandOnce : List Pair → Type 0
StandOnce [] = ⊤
StandOnce (pair ∷ pairs) = IsFalse (has_name pair.0 pairs) × StandOnce pairs

-- the name is that of the first pair that repeats an earlier name: before that pair no name occurs twice
pub record RepeatsFirst (pairs : List Pair) (name : Text) : Type 0 where
  pub before : List Pair
  pub value : Text
  pub after : List Pair
  pub cut : pairs ≡ before ++ (name, value) ∷ after
  pub once : StandOnce before
  pub stood : IsTrue (has_name name before)

-- the form has these parameters: no name occurs twice in it, and each parameter is the value of the pair with its name
pub record HasRequest (form : List ℕ) (params : Params) : Type 0 where
  pub once : StandOnce (kept_pairs form)
  pub stands : (name : ParamName) (value : Text) → param_of name params ≡ Some value → Has (kept_pairs form) (name_text name, value)
  pub all : (name : ParamName) (value : Text) → Has (kept_pairs form) (name_text name, value) → param_of name params ≡ Some value

-- the causes of each error of reading: the first repeated name, and no other
abbrev pub RefusesForm : List ℕ → AskNo → Type 0
RefusesForm form (Twice name) = RepeatsFirst (kept_pairs form) name
RefusesForm form (Differs name) = ⊥
RefusesForm form OuterScope = ⊥
RefusesForm form NoMemory = ⊥
