-- Who is named by a request for the claim `sub` (OpenID Connect Core 1.0, 5.5.1).
use Rattle.std.specs.Prelude.{Bool, false, ◌||◌, codes, Option, Some, None, option_and_then}
use Rattle.std.specs.Str.{bytes_eq}
use Rattle.serde_json.specs.Data.{Data, Items, no_items, item}
use Rattle.serde_json.specs.Find.{get, as_str, as_array}
use Rattle.sso_base.specs.Words.{Text}

-- there is a text, and it is this one
abbrev pub is_this : Text → Option Text → Bool
is_this q None = false
is_this q (Some t) = bytes_eq q t

-- some element is this text
abbrev pub has_item : Text → Items → Bool
has_item q no_items = false
has_item q (item d ds) = is_this q (as_str d) || has_item q ds

abbrev pub is_among : Text → Option Items → Bool
is_among q None = false
is_among q (Some ds) = has_item q ds

-- `value` is this text, or some element of `values` is
abbrev pub names_subject : Text → Data → Bool
names_subject q sub = is_this q (option_and_then as_str (get (codes "value") sub)) || is_among q (option_and_then as_array (get (codes "values") sub))
