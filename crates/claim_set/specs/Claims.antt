-- Claim sets: finite maps from names to JSON values, as members in the order of their names (RFC 7519, 4).
use Rattle.std.specs.Prelude.{◌≡◌, ◌≤◌, ℕ, List, [], ◌∷◌, false, if◌then◌else◌}
use Rattle.std.specs.Str.{bytes_eq}
use Rattle.serde_json.specs.Data.{Data, null, boolean, number, string, array, object, Items, no_items, item, Members, no_members, member, depth}
use Rattle.serde_json.specs.Written.{has_float}

-- the members of an object
abbrev pub members_in : Data → Members
members_in null = no_members
members_in (boolean b) = no_members
members_in (number n) = no_members
members_in (string s) = no_members
members_in (array ds) = no_members
members_in (object ms) = ms

-- a value that is a claim set: an object with integers only, nested at most 127 deep
pub record IsClaims (d : Data) : Type 0 where
  pub is_object : d ≡ object (members_in d)
  pub whole : has_float d ≡ false
  pub nests : depth d ≤ 127

-- how deep a claim set is: 1, plus 1 for each level of objects and arrays inside it
abbrev pub claims_depth : Members → ℕ
claims_depth ms = depth (object ms)

-- the names, in order
abbrev pub member_names : Members → List (List ℕ)
member_names no_members = []
member_names (member k d ms) = k ∷ member_names ms

-- the members without one name
abbrev pub without : List ℕ → Members → Members
without k no_members = no_members
without k (member l d ms) = if bytes_eq k l then ms else member l d (without k ms)

-- texts as the items of an array
abbrev pub text_items : List (List ℕ) → Items
text_items [] = no_items
text_items (t ∷ ts) = item (string t) (text_items ts)
