-- The entries of a map: their names stand in order, and those behind one are of whole numbers where all are.
use Rattle.std.proofs.Common.{◌≡◌, List, [], ◌∷◌, ◌++◌, String, Global, Less, Bool, true, false, ◌||◌, string_bytes}
use Rattle.std.specs.List.{AllByRecursion}
use Rattle.std.specs.List.Sorted.{IsStrictlySortedBy}
use Rattle.std.specs.Map.{keys_of}
use Rattle.std.specs.String.{string_cmp}
use Rattle.serde_json.specs.View.{view, members_view}
use Rattle.serde_json.specs.Written.{has_float, members_have_float}
use Rattle.serde_json.proofs.Views.{Entry}
use Rattle.claim_set.specs.Fitting.{IsBefore}

before : (k : String Global) (es : List Entry) → AllByRecursion (λ y. string_cmp k y ≡ Less) (keys_of es) → IsBefore (string_bytes k) (members_view es)
before k [] h = tt
before k (e ∷ es) h = (h.0, before k es h.1)

-- a name stands before those behind it
pub before_later : (done : List Entry) (e : Entry) (later : List Entry) → IsStrictlySortedBy string_cmp (keys_of (done ++ e ∷ later)) → IsBefore (string_bytes e.0) (members_view later)
unfolding IsStrictlySortedBy
before_later [] e later h = before e.0 later h.0
before_later (first ∷ done) e later h = before_later done e later h.1

second : (a b : Bool) → (a || b) ≡ false → b ≡ false
second true b h = cc
second false b h = h

pub later_whole : (e : Entry) (later : List Entry) → members_have_float (members_view (e ∷ later)) ≡ false → members_have_float (members_view later) ≡ false
later_whole e later h = second (has_float (view e.1)) (members_have_float (members_view later)) h
