-- A location with the value of a parameter of another location.
use Rattle.std.specs.Prelude.{ℕ, List, map, Option, Some, None, option_map, if◌then◌else◌}
use Rattle.std.specs.Str.{bytes_eq}
use Rattle.sso_base.specs.Words.{Text}
use Rattle.request_params.specs.Form.{Pair, form_pairs, form_text}
use Rattle.request_params.specs.Reading.{has_name, value_of}
use Rattle.web_requests.specs.declared.location.Location.{Location}
use Rattle.web_requests.specs.declared.location.Location.TheVariants as location

-- the form of a location, and the location with another form
abbrev pub form_of : Location → List ℕ
form_of (location.Provider query) = query
form_of (location.Client uri fragment form) = form

abbrev pub with_form : Location → List ℕ → Location
with_form (location.Provider query) form = location.Provider form
with_form (location.Client uri fragment old) form = location.Client uri fragment form

-- the pairs, with this value for each of this name
abbrev pub with_value : Text → Text → List Pair → List Pair
with_value name value pairs = map (λ (pair : Pair). if bytes_eq pair.0 name then (name, value) else pair) pairs

-- the form of the pairs with another value for the name, if there is a value and some pair has the name
abbrev pub mixed_form : Text → List Pair → Option Text → Option (List ℕ)
mixed_form name pairs None = None
mixed_form name pairs (Some value) = if has_name name pairs then Some (form_text (with_value name value pairs)) else None

-- the value is that of the first pair with this name in the other location; none if either location lacks the name
unfoldable pub mixed : Text → Location → Location → Option Location
mixed name location other =
    option_map (with_form location) (mixed_form name (form_pairs (form_of location)) (value_of name (form_pairs (form_of other))))
