-- The kinds of the values of users' claims (OpenID Connect Core 1.0, 5.1).
use Rattle.std.specs.Prelude.{◌≡◌, ◌&&◌, ℕ, Bool, true, false, List, Option, Some, None, is_some}
use Rattle.serde_json.specs.Data.{Data, Members, no_members, member}
use Rattle.serde_json.specs.Find.{get_member, as_str, as_bool, as_object}
use Rattle.claim_set.specs.Kinds.{small_number}
use Rattle.oidc_words.specs.declared.claims.ClaimKind.{ClaimKind}
use Rattle.oidc_words.specs.declared.claims.ClaimKind.TheVariants.{Text, Flag, Seconds, Address}
use Rattle.oidc_words.specs.Claims.{kind_of}

-- each member is a text
abbrev pub are_texts : Members → Bool
are_texts no_members = true
are_texts (member k d ms) = is_some (as_str d) && are_texts ms

-- an address: an object of texts (Core 5.1.1)
abbrev pub is_address : Option Members → Bool
is_address None = false
is_address (Some ms) = are_texts ms

-- the value is of this kind; a number of seconds is below 2^40
abbrev pub has_kind : Option ClaimKind → Data → Bool
has_kind None d = false
has_kind (Some Text) d = is_some (as_str d)
has_kind (Some Flag) d = is_some (as_bool d)
has_kind (Some Seconds) d = is_some (small_number d)
has_kind (Some Address) d = is_address (as_object d)

-- each claim is a standard claim, and its value is of its kind
abbrev pub AreKnown : Members → Type 0
AreKnown ms = (k : List ℕ) (d : Data) → get_member k ms ≡ Some d → has_kind (kind_of k) d ≡ true
