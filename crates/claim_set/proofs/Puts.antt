-- A claim set stays one when a name is set.
use Rattle.std.proofs.Common.{◌≡◌, ◌≤◌, ℕ, List, Bool, true, false, ◌||◌, Ordering, Less, Equal, Greater, refl, arith, true≢false, Some, sym, ap, subst, ◌∙◌}
use Rattle.std.specs.Ordering.{match_ordering, nat_cmp}
use Rattle.std.specs.Cmp.Lexicographic.{slice_cmp}
use Rattle.serde_json.specs.Data.{Data, null, boolean, number, string, array, object, Members, no_members, member, put, depth, members_depth}
use Rattle.serde_json.specs.Find.{as_object}
use Rattle.serde_json.specs.Written.{has_float, members_have_float}
use Rattle.claim_set.specs.Claims.{IsClaims, members_in}

module _ (P : Members → Type 0) where
  at_order : (o : Ordering) (a b c : Members) → P a → P b → P c → P (match_ordering o a b c)
  at_order Less a b c p q r = p
  at_order Equal a b c p q r = q
  at_order Greater a b c p q r = r

pub members_depth-put : (k : List ℕ) (d : Data) (ms : Members) (n : ℕ) → depth d ≤ n → members_depth ms ≤ n → members_depth (put k d ms) ≤ n
members_depth-put k d no_members n p q = omega arith
members_depth-put k d (member l e ms) n p q =
    at_order (λ m. members_depth m ≤ n) (slice_cmp nat_cmp k l) (member k d (member l e ms)) (member l d ms) (member l e (put k d ms))
    (omega arith) (omega arith) (omega (arith, members_depth-put k d ms n p (omega arith)))

pub both_false : (a b : Bool) → (a || b) ≡ false → (a ≡ false) × (b ≡ false)
both_false true b h = absurd (true≢false h)
both_false false b h = (refl, h)

pub members_have_float-put : (k : List ℕ) (d : Data) (ms : Members) → has_float d ≡ false → members_have_float ms ≡ false → members_have_float (put k d ms) ≡ false
members_have_float-put k d no_members p q = rw p
members_have_float-put k d (member l e ms) p q =
    let parts = both_false (has_float e) (members_have_float ms) q in
    at_order (λ m. members_have_float m ≡ false) (slice_cmp nat_cmp k l) (member k d (member l e ms)) (member l d ms) (member l e (put k d ms))
    (rw (p, parts.0, parts.1)) (rw (p, parts.1)) (rw (parts.0, members_have_float-put k d ms p parts.1))

pub IsClaims-put : (k : List ℕ) (d : Data) (ms : Members) → has_float d ≡ false → depth d ≤ 126 → IsClaims (object ms) → IsClaims (object (put k d ms))
IsClaims-put k d ms p q h = record {
  is_object = refl;
  whole = members_have_float-put k d ms p h.whole;
  nests = omega (arith, members_depth-put k d ms 126 q (omega (arith, h.nests)));
}

pub from_as_object : (d : Data) (ms : Members) → Some ms ≡ as_object d → d ≡ object ms
from_as_object null ms e = absurd (cc)
from_as_object (boolean b) ms e = absurd (cc)
from_as_object (number n) ms e = absurd (cc)
from_as_object (string s) ms e = absurd (cc)
from_as_object (array ds) ms e = absurd (cc)
from_as_object (object ns) ms e = let same : ms ≡ ns = cc in ap object (sym same)

pub IsClaims-made : (d : Data) (ms : Members) → Some ms ≡ as_object d → members_have_float ms ≡ false → depth d ≤ 127 → IsClaims d
IsClaims-made d ms e w n =
    let is : d ≡ object ms = from_as_object d ms e in
    subst IsClaims (sym is) (record { is_object = refl; whole = w; nests = rw is at n })

pub IsClaims-after : (old new : Data) (ms ns : Members) (k : List ℕ) (d : Data) → IsClaims old → Some ms ≡ as_object old → ns ≡ put k d ms → new ≡ object ns
    → has_float d ≡ false → depth d ≤ 126 → IsClaims new
IsClaims-after old new ms ns k d h e f g p q =
    let is : old ≡ object ms = from_as_object old ms e in
    let before : IsClaims (object ms) = subst IsClaims is h in
    subst IsClaims (sym (g ∙ ap object f)) (IsClaims-put k d ms p q before)

pub members_of_object : (d : Data) (ms : Members) → Some ms ≡ as_object d → ms ≡ members_in d
members_of_object d ms e = sym (ap members_in (from_as_object d ms e))
