-- The parameter `claims` (OpenID Connect Core 1.0, 5.5): a JSON object whose members `userinfo` and `id_token`, where they
-- are there, are objects, each of whose members, one for each claim, is null or an object.
use Rattle.std.specs.Prelude.{ℕ, Bool, true, false, ◌&&◌, ◌||◌, List, [], ◌∷◌, ◌++◌, codes, Option, Some, None, option_and_then, is_some, if◌then◌else◌}
use Rattle.serde_json.specs.Data.{Data, Items, no_items, item, Members, no_members, member}
use Rattle.serde_json.specs.Find.{get, as_null, as_object, as_str, as_array}
use Rattle.serde_json.specs.Read.{read}
use Rattle.oidc_words.specs.Claims.{is_standard_claim}
use Rattle.oidc_words.specs.Words.{is_filled}
use Rattle.auth_request.specs.declared.claims_parameter.Asked.{Asked}

-- ---- its form

-- the possible values for one claim (5.5.1)
abbrev pub is_claim_request : Data → Bool
is_claim_request d = is_some (as_null d) || is_some (as_object d)

abbrev pub are_claim_requests : Members → Bool
are_claim_requests no_members = true
are_claim_requests (member name d ms) = is_claim_request d && are_claim_requests ms

abbrev pub is_request_object : Option Members → Bool
is_request_object None = false
is_request_object (Some ms) = are_claim_requests ms

-- the possible values of `userinfo` and of `id_token`
abbrev pub is_part : Option Data → Bool
is_part None = true
is_part (Some d) = is_request_object (as_object d)

abbrev pub is_claims_request : Data → Bool
is_claims_request d = is_some (as_object d) && is_part (get (codes "userinfo") d) && is_part (get (codes "id_token") d)

-- ---- what it requests

-- the standard claims among the names, in their order
abbrev pub standard_names : Members → List (List ℕ)
standard_names no_members = []
standard_names (member name d ms) = if is_standard_claim name then name ∷ standard_names ms else standard_names ms

abbrev pub names_of : Option Members → List (List ℕ)
names_of None = []
names_of (Some ms) = standard_names ms

abbrev pub names_at : List ℕ → Data → List (List ℕ)
names_at name d = names_of (option_and_then as_object (get name d))

-- the text, unless it is empty: no subject is empty (OpenID Connect Core 1.0, 2)
abbrev pub if_filled : List ℕ → List (List ℕ)
if_filled t = if is_filled t then t ∷ [] else []

-- the text, where it is one
abbrev pub one_text : Option (List ℕ) → List (List ℕ)
one_text None = []
one_text (Some t) = if_filled t

-- the texts among the elements
abbrev pub item_texts : Items → List (List ℕ)
item_texts no_items = []
item_texts (item d ds) = one_text (as_str d) ++ item_texts ds

abbrev pub texts_among : Option Items → List (List ℕ)
texts_among None = []
texts_among (Some ds) = item_texts ds

abbrev pub value_texts : Data → List (List ℕ)
value_texts sub = one_text (option_and_then as_str (get (codes "value") sub))

abbrev pub values_texts : Data → List (List ℕ)
values_texts sub = texts_among (option_and_then as_array (get (codes "values") sub))

-- the subjects that a request for the claim `sub` names, where it has `value` or `values` (5.5.1)
abbrev pub subs_of : Data → Option (List (List ℕ))
subs_of sub = if is_some (get (codes "value") sub) || is_some (get (codes "values") sub) then Some (value_texts sub ++ values_texts sub) else None

abbrev pub subs_in : Data → Option (List (List ℕ))
subs_in d = option_and_then subs_of (option_and_then (get (codes "sub")) (get (codes "id_token") d))

abbrev pub asked_of : Data → Asked
asked_of d = record { fits = true; subs = subs_in d; id_asked = names_at (codes "id_token") d; info_asked = names_at (codes "userinfo") d }

-- nothing is requested; whether that is because the parameter is absent, or because it has another form
abbrev pub nothing : Bool → Asked
nothing fits = record { fits = fits; subs = None; id_asked = []; info_asked = [] }

abbrev pub asked_in : Data → Asked
asked_in d = if is_claims_request d then asked_of d else nothing false

abbrev pub asked_by : Option Data → Asked
asked_by None = nothing false
asked_by (Some d) = asked_in d

-- what the parameter requests. It is plain JSON, in which numbers may have fractions.
unfoldable pub claims_of : Option (List ℕ) → Asked
claims_of None = nothing true
claims_of (Some t) = asked_by (read t)
