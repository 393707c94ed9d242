-- A user's claims, as a table of the configuration states them (OpenID Connect Core 1.0, 5.1 and 5.4).
use Rattle.std.specs.Prelude.{ℕ, Bool, true, false, ◌≡◌, List, Option, Some, None, option_map, option_and_then}
use Rattle.toml.specs.Data.{Data, Members, no_members, member, as_str, as_bool, as_table}
use Rattle.serde_json.specs.Data as json
use Rattle.claim_set.specs.Kinds.{if_small}
use Rattle.oidc_words.specs.declared.claims.ClaimKind.{ClaimKind}
use Rattle.oidc_words.specs.declared.claims.ClaimKind.TheVariants.{Text, Flag, Seconds, Address}
use Rattle.oidc_words.specs.Claims.{kind_of}
use Rattle.configuration_rows.specs.Values.{as_natural}

abbrev pub text_value : Data → Option json.Data
text_value d = option_map json.string (as_str d)

abbrev pub flag_value : Data → Option json.Data
flag_value d = option_map json.boolean (as_bool d)

-- a number of seconds below 2^40
abbrev pub seconds_value : Data → Option json.Data
seconds_value d = option_map (λ n. json.number (json.unsigned n)) (option_and_then if_small (as_natural d))

-- the members of a table of texts, set one after another
abbrev pub texts_onto : Members → json.Members → Option json.Members
texts_onto no_members claims = Some claims
texts_onto (member k d ms) claims = option_and_then (λ v. texts_onto ms (json.put k v claims)) (text_value d)

-- a table of texts, such as an address (OpenID Connect Core 1.0, 5.1.1)
abbrev pub address_value : Data → Option json.Data
address_value d = option_map json.object (option_and_then (λ ms. texts_onto ms json.no_members) (as_table d))

-- the value of a claim of this kind
abbrev pub kind_value : Option ClaimKind → Data → Option json.Data
kind_value None d = None
kind_value (Some Text) d = text_value d
kind_value (Some Flag) d = flag_value d
kind_value (Some Seconds) d = seconds_value d
kind_value (Some Address) d = address_value d

-- the value of a claim, if the name is known and the value is of its kind
abbrev pub claim_value : List ℕ → Data → Option json.Data
claim_value k d = kind_value (kind_of k) d

-- the claims of a table, set one after another
abbrev pub claims_onto : Members → json.Members → Option json.Members
claims_onto no_members claims = Some claims
claims_onto (member k d ms) claims = option_and_then (λ v. claims_onto ms (json.put k v claims)) (claim_value k d)

-- the claims in a value, if it is a table of claims
abbrev pub claims_in : Data → Option json.Members
claims_in d = option_and_then (λ ms. claims_onto ms json.no_members) (as_table d)

-- the claim set after a name is set to a value, if there is one
abbrev pub Puts : List ℕ → Option json.Data → json.Members → json.Members → Bool → Type 0
Puts k None old new taken = taken ≡ false
Puts k (Some v) old new taken = (taken ≡ true) × (new ≡ json.put k v old)
