-- What is true of the whole is true of a member, and of what is left without one.
use Rattle.std.proofs.Common.{◌≡◌, ◌≤◌, ℕ, suc, List, [], ◌∷◌, Bool, true, false, cond, Ordering, Less, Equal, Greater, is_eq, Option, Some, is_some, refl, sym, ap, ◌∙◌, arith, subst, true≢false, string_bytes}
use Rattle.std.specs.Ordering.{match_ordering, nat_cmp}
use Rattle.std.specs.Cmp.Lexicographic.{slice_cmp}
use Rattle.std.specs.Str.{bytes_eq}
use Rattle.std.specs.Map.{remove_entry}
use Rattle.std.specs.BTreeMap.{is_at}
use Rattle.std.proofs.lemmas.Map.Text.{is_eq-slice_cmp}
use Rattle.serde_json.specs.Data.{Data, null, boolean, number, string, array, object, Members, no_members, member, depth, members_depth}
use Rattle.serde_json.specs.Find.{get, get_member, as_object}
use Rattle.serde_json.specs.Written.{has_float, members_have_float}
use Rattle.serde_json.specs.View.{view, members_view}
use Rattle.serde_json.proofs.Views.{Entry}
use Rattle.claim_set.specs.Claims.{IsClaims, members_in, without}
use Rattle.claim_set.proofs.Puts.{both_false, from_as_object}

-- a member is no deeper, and whole where the members are
pub record IsWithin (ms : Members) (v : Data) : Type 0 where
  pub deep : depth v ≤ members_depth ms
  pub whole : members_have_float ms ≡ false → has_float v ≡ false

later : (l : List ℕ) (e : Data) (ms : Members) (v : Data) → IsWithin ms v → IsWithin (member l e ms) v
later l e ms v h = record { deep = omega (arith, h.deep); whole = λ w. h.whole (both_false (has_float e) (members_have_float ms) w).1 }

here : (l : List ℕ) (e : Data) (ms : Members) (v : Data) → Some v ≡ Some e → IsWithin (member l e ms) v
here l e ms v f =
    let same : e ≡ v = cc in
    subst (IsWithin (member l e ms)) same (record { deep = omega arith; whole = λ w. (both_false (has_float e) (members_have_float ms) w).0 })

at_order : (o : Ordering) (l : List ℕ) (e : Data) (ms : Members) (rest : Option Data) (v : Data) → (Some v ≡ rest → IsWithin ms v) → Some v ≡ match_ordering o rest (Some e) rest → IsWithin (member l e ms) v
at_order Less l e ms rest v h f = later l e ms v (h f)
at_order Equal l e ms rest v h f = here l e ms v f
at_order Greater l e ms rest v h f = later l e ms v (h f)

pub IsWithin-get : (k : List ℕ) (ms : Members) (v : Data) → Some v ≡ get_member k ms → IsWithin ms v
IsWithin-get k no_members v e = absurd (cc)
IsWithin-get k (member l e ms) v f = at_order (slice_cmp nat_cmp k l) l e ms (get_member k ms) v (λ g. IsWithin-get k ms v g) f

object_of : (v : Data) → is_some (as_object v) ≡ true → Some (members_in v) ≡ as_object v
object_of null e = absurd (true≢false (sym e))
object_of (boolean b) e = absurd (true≢false (sym e))
object_of (number n) e = absurd (true≢false (sym e))
object_of (string s) e = absurd (true≢false (sym e))
object_of (array ds) e = absurd (true≢false (sym e))
object_of (object ms) e = refl

pub IsClaims-get : (d v : Data) (k : List ℕ) → IsClaims d → Some v ≡ get k d → is_some (as_object v) ≡ true → IsClaims v
IsClaims-get d v k h e o =
    let found : Some v ≡ get_member k (members_in d) = rw h.is_object at e in
    let within = IsWithin-get k (members_in d) v found in
    let whole : members_have_float (members_in d) ≡ false = rw h.is_object at h.whole in
    let nests : suc (members_depth (members_in d)) ≤ 127 = rw h.is_object at h.nests in
    let is : v ≡ object (members_in v) = from_as_object v (members_in v) (object_of v o) in
    record { is_object = is; whole = within.whole whole; nests = omega (arith, within.deep, nests) }

-- ---- without one name

at_test : (l k : List ℕ) (e : Data) (ms ns : Members) (t : Bool) → members_depth ns ≤ members_depth ms → members_depth (cond t ms (member l e ns)) ≤ members_depth (member l e ms)
at_test l k e ms ns true h = omega arith
at_test l k e ms ns false h = omega (arith, h)

pub members_depth-without : (k : List ℕ) (ms : Members) → members_depth (without k ms) ≤ members_depth ms
members_depth-without k no_members = omega arith
members_depth-without k (member l e ms) = at_test l k e ms (without k ms) (bytes_eq k l) (members_depth-without k ms)

whole_at : (l : List ℕ) (e : Data) (ms ns : Members) (t : Bool) → has_float e ≡ false → members_have_float ms ≡ false → members_have_float ns ≡ false → members_have_float (cond t ms (member l e ns)) ≡ false
whole_at l e ms ns true p q r = q
whole_at l e ms ns false p q r = rw (p, r)

whole-without : (k : List ℕ) (ms : Members) → members_have_float ms ≡ false → members_have_float (without k ms) ≡ false
whole-without k no_members h = refl
whole-without k (member l e ms) h =
    let parts = both_false (has_float e) (members_have_float ms) h in
    whole_at l e ms (without k ms) (bytes_eq k l) parts.0 parts.1 (whole-without k ms parts.1)

view_at : (k : List ℕ) (e : Entry) (es fs : List Entry) (t : Bool) → members_view fs ≡ without k (members_view es) → members_view (cond t es (e ∷ fs)) ≡ cond t (members_view es) (member (string_bytes e.0) (view e.1) (without k (members_view es)))
view_at k e es fs true h = refl
view_at k e es fs false h = ap (member (string_bytes e.0) (view e.1)) h

pub members_view-remove_entry : (k : List ℕ) (es : List Entry) → members_view (remove_entry (is_at (λ y. slice_cmp nat_cmp k (string_bytes y))) es) ≡ without k (members_view es)
members_view-remove_entry k [] = refl
members_view-remove_entry k (e ∷ es) =
    let same : is_eq (slice_cmp nat_cmp k (string_bytes e.0)) ≡ bytes_eq k (string_bytes e.0) = is_eq-slice_cmp k (string_bytes e.0) in
    rw same (view_at k e es (remove_entry (is_at (λ y. slice_cmp nat_cmp k (string_bytes y))) es) (bytes_eq k (string_bytes e.0)) (members_view-remove_entry k es))

pub IsClaims-without : (old new : Data) (ms ns : Members) (k : List ℕ) → IsClaims old → Some ms ≡ as_object old → ns ≡ without k ms → new ≡ object ns → IsClaims new
IsClaims-without old new ms ns k h e f g =
    let is : old ≡ object ms = from_as_object old ms e in
    let before : IsClaims (object ms) = subst IsClaims is h in
    subst IsClaims (sym (g ∙ ap object f)) (record { is_object = refl; whole = whole-without k ms before.whole; nests = omega (arith, members_depth-without k ms, before.nests) })
