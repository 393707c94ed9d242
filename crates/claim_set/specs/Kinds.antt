-- Claims by name, each of the requested kind.
use Rattle.std.specs.Prelude.{ℕ, ◌^◌, List, [], ◌∷◌, Bool, false, nat_lt, is_none, Option, Some, None, option_map, option_and_then, Result, Ok, Err}
use Rattle.std.specs.Prelude.{if◌then◌else◌}
use Rattle.serde_json.specs.Data.{Data, null, boolean, number, string, array, object, Items, no_items, item, Members}
use Rattle.serde_json.specs.Find.{get_member, as_object, as_str, as_bool, as_number, as_u64}
use Rattle.claim_set.specs.declared.no.ClaimNo.{ClaimNo}
use Rattle.claim_set.specs.declared.no.ClaimNo.TheVariants.{WrongKind}

abbrev pub kind_found : {A : Type 0} → List ℕ → Option A → Result (Option A) ClaimNo
kind_found name None = Err (WrongKind name)
kind_found name (Some a) = Ok (Some a)

-- a claim that is absent, of the requested kind, or of another kind
abbrev pub of_kind : {A : Type 0} → List ℕ → Option Data → (Data → Option A) → Result (Option A) ClaimNo
of_kind name None kind = Ok None
of_kind name (Some d) kind = kind_found name (kind d)

-- the claim is present, and is not of the kind
abbrev pub is_wrong : {A : Type 0} → (Data → Option A) → Option Data → Bool
is_wrong kind None = false
is_wrong kind (Some d) = is_none (kind d)

-- the errors for a claim of another kind and for an absent claim, each with its name
abbrev pub another_kind : {A N : Type 0} → (ClaimNo → N) → List ℕ → (Data → Option A) → Members → Bool × N
another_kind refusal name kind ms = (is_wrong kind (get_member name ms), refusal (WrongKind name))

abbrev pub absent : {N : Type 0} → (List ℕ → N) → List ℕ → Members → Bool × N
absent refusal name ms = (is_none (get_member name ms), refusal name)

-- a string
abbrev pub text_claim : List ℕ → Members → Result (Option (List ℕ)) ClaimNo
text_claim name ms = of_kind name (get_member name ms) as_str

abbrev pub if_small : ℕ → Option ℕ
if_small n = if nat_lt n (2 ^ 40) then Some n else None

-- an integer from 0 to 2^40 - 1
abbrev pub small_number : Data → Option ℕ
small_number d = option_and_then if_small (option_and_then as_u64 (as_number d))

abbrev pub number_claim : List ℕ → Members → Result (Option ℕ) ClaimNo
number_claim name ms = of_kind name (get_member name ms) small_number

-- true or false
abbrev pub flag_claim : List ℕ → Members → Result (Option Bool) ClaimNo
flag_claim name ms = of_kind name (get_member name ms) as_bool

-- an object
abbrev pub member_claim : List ℕ → Members → Result (Option Members) ClaimNo
member_claim name ms = of_kind name (get_member name ms) as_object

-- one string, or an array of strings
abbrev pub item_texts : Items → Option (List (List ℕ))
item_texts no_items = Some []
item_texts (item d ds) = option_and_then (λ s. option_map (λ rest. s ∷ rest) (item_texts ds)) (as_str d)

abbrev pub data_texts : Data → Option (List (List ℕ))
data_texts null = None
data_texts (boolean b) = None
data_texts (number n) = None
data_texts (string s) = Some (s ∷ [])
data_texts (array ds) = item_texts ds
data_texts (object ms) = None

abbrev pub texts_claim : List ℕ → Members → Result (Option (List (List ℕ))) ClaimNo
texts_claim name ms = of_kind name (get_member name ms) data_texts
