-- When bytes are the text of a JSON value.
use Rattle.std.proofs.Common.{◌≡◌, List, ℕ, Option, Some, None, Bool, true, false, ◌||◌, cond, refl, sym, ap, subst, ◌∙◌, true≢false, Ok, ◌≤◌}
use Rattle.std.specs.Str.{IsUtf8, is_utf8}
use Rattle.std.proofs.lemmas.Str.{IsUtf8-from_is_utf8, is_utf8-from_IsUtf8}
use Rattle.serde_json.specs.Data.{Data, Members, no_members, member, object, depth}
use Rattle.serde_json.specs.Read.{read}
use Rattle.serde_json.specs.Written.{has_float, members_have_float}
use Rattle.serde_json.specs.Find.{as_object}
use Rattle.claim_set.specs.Claims.{IsClaims, members_in}
use Rattle.claim_set.specs.Reading.{json_in, first_float, if_whole, if_members, if_read, claims_read, Reads}
use Rattle.claim_set.proofs.Puts.{from_as_object}

pub json_read : (b : List ℕ) (d : Data) → IsUtf8 b → read b ≡ Some d → json_in b ≡ Some d
unfolding json_in
json_read b d u r = rw (is_utf8-from_IsUtf8 b u, r)

refused_at : (b : List ℕ) (t : Bool) → is_utf8 b ≡ t → (IsUtf8 b → read b ≡ None) → cond t (read b) None ≡ None
refused_at b true is h = h (IsUtf8-from_is_utf8 b is)
refused_at b false is h = refl

pub json_refused : (b : List ℕ) → (IsUtf8 b → read b ≡ None) → json_in b ≡ None
unfolding json_in
json_refused b h = refused_at b (is_utf8 b) refl h

-- no value of whole numbers has a float
or_false : (a b : Bool) → (a || b) ≡ false → (a ≡ false) × (b ≡ false)
or_false true b h = absurd (true≢false h)
or_false false b h = (refl, h)

pub first_float_none : (ms : Members) → members_have_float ms ≡ false → first_float ms ≡ None
first_float_none no_members h = refl
first_float_none (member k d ms) h = let parts = or_false (has_float d) (members_have_float ms) h in rw parts.0 (first_float_none ms parts.1)

no_floats_at : (k : List ℕ) (d : Data) (ms : Members) (t : Bool) → has_float d ≡ t → (first_float ms ≡ None → members_have_float ms ≡ false) → cond t (Some k) (first_float ms) ≡ None → (has_float d || members_have_float ms) ≡ false
no_floats_at k d ms true is f h = absurd (cc)
no_floats_at k d ms false is f h = rw (is, f h)

pub no_floats : (ms : Members) → first_float ms ≡ None → members_have_float ms ≡ false
no_floats no_members h = refl
no_floats (member k d ms) h = no_floats_at k d ms (has_float d) refl (λ e. no_floats ms e) h

pub claims_back : (b : List ℕ) (ms : Members) → IsUtf8 b → read b ≡ Some (object ms) → members_have_float ms ≡ false → claims_read b ≡ Ok ms
claims_back b ms u r h = rw (json_read b (object ms) u r, first_float_none ms h)

pub claims_written : (d : Data) (b bytes : List ℕ) → IsClaims d → IsUtf8 bytes → (depth d ≤ 127 → read bytes ≡ Some d) → b ≡ bytes → claims_read b ≡ Ok (members_in d)
claims_written d b bytes h u r e =
    let whole : members_have_float (members_in d) ≡ false = rw h.is_object at h.whole in
    rw e (claims_back bytes (members_in d) u (r h.nests ∙ ap Some h.is_object) whole)

-- ---- what is read as claims stands in the text, and is read from it

json_at : (b : List ℕ) (t : Bool) → is_utf8 b ≡ t → (d : Data) → cond t (read b) None ≡ Some d → IsUtf8 b × (read b ≡ Some d)
json_at b true is d h = (IsUtf8-from_is_utf8 b is, h)
json_at b false is d h = absurd (cc)

pub json_in_some : (b : List ℕ) (d : Data) → json_in b ≡ Some d → IsUtf8 b × (read b ≡ Some d)
unfolding json_in
json_in_some b d h = json_at b (is_utf8 b) refl d h

whole_of : (o : Option (List ℕ)) (ms ns : Members) → if_whole o ms ≡ Ok ns → (o ≡ None) × (ms ≡ ns)
whole_of None ms ns h = (refl, cc)
whole_of (Some k) ms ns h = absurd (cc)

members_of : (o : Option Members) (ns : Members) → if_members o ≡ Ok ns → (o ≡ Some ns) × (first_float ns ≡ None)
members_of None ns h = absurd (cc)
members_of (Some ms) ns h =
    let parts = whole_of (first_float ms) ms ns h in
    (ap Some parts.1, subst (λ m. first_float m ≡ None) parts.1 parts.0)

value_of : (o : Option Data) (ns : Members) → if_read o ≡ Ok ns → (o ≡ Some (object ns)) × (first_float ns ≡ None)
value_of None ns h = absurd (cc)
value_of (Some d) ns h = let parts = members_of (as_object d) ns h in (ap Some (from_as_object d ns (sym parts.0)), parts.1)

pub read_reads : (b : List ℕ) (ms : Members) → claims_read b ≡ Ok ms → Reads b ms
read_reads b ms h =
    let parts = value_of (json_in b) ms h in
    let text = json_in_some b (object ms) parts.0 in
    record { utf8 = text.0; is_object = text.1; whole = no_floats ms parts.1 }

pub reads_read : (b : List ℕ) (ms : Members) → Reads b ms → claims_read b ≡ Ok ms
reads_read b ms h = claims_back b ms h.utf8 h.is_object h.whole
