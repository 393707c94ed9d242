-- What was put is found, and taken out again.
use Rattle.std.proofs.Common.{◌≡◌, ℕ, List, [], ◌∷◌, Bool, true, false, not, ◌&&◌, cond, Ordering, Less, Equal, Greater, is_eq, Option, Some, None, refl, sym, ap, ◌∙◌, true≢false}
use Rattle.std.specs.Ordering.{match_ordering, nat_cmp}
use Rattle.std.specs.Cmp.Lexicographic.{slice_cmp}
use Rattle.std.specs.Str.{bytes_eq}
use Rattle.std.proofs.lemmas.Map.Text.{is_eq-slice_cmp}
use Rattle.std.proofs.lemmas.Slice.Eq.{bytes_eq-Decides}
use Rattle.std.specs.Option.{option_or}
use Rattle.serde_json.specs.Data.{Data, Members, no_members, member, put}
use Rattle.serde_json.specs.Find.{get_member}
use Rattle.serde_json.proofs.Views.{get_member-put, get_member-put_other}
use Rattle.claim_set.specs.Claims.{without}
use Rattle.claim_set.specs.Building.{Entry, put_if, put_all, without_all, HasNone, found, names, is_apart, is_distinct}

both_true : (a b : Bool) → (a && b) ≡ true → (a ≡ true) × (b ≡ true)
both_true true true e = (refl, refl)
both_true true false e = absurd (true≢false (sym e))
both_true false b e = absurd (true≢false (sym e))

not_true : (a : Bool) → not a ≡ true → a ≡ false
not_true true e = absurd (true≢false (sym e))
not_true false e = refl

at_name : (q k : List ℕ) (d : Data) (ms : Members) (t : Bool) → bytes_eq q k ≡ t → get_member q (put k d ms) ≡ cond t (Some d) (get_member q ms)
at_name q k d ms true is = let same : q ≡ k = (bytes_eq-Decides q k).0 is in rw same (get_member-put k d ms)
at_name q k d ms false is =
    get_member-put_other q k d ms (λ same. true≢false (sym ((bytes_eq-Decides q k).1 same) ∙ is))

same_either : (t : Bool) (o : Option Data) → o ≡ cond t o o
same_either true o = refl
same_either false o = refl

pub get-put_if : (q k : List ℕ) (o : Option Data) (ms : Members) → get_member q (put_if k o ms) ≡ cond (bytes_eq q k) (option_or o (get_member q ms)) (get_member q ms)
get-put_if q k None ms = same_either (bytes_eq q k) (get_member q ms)
get-put_if q k (Some d) ms = at_name q k d ms (bytes_eq q k) refl

pub get-put_all : (q : List ℕ) (es : List Entry) (ms : Members) → get_member q (put_all es ms) ≡ found q es (get_member q ms)
get-put_all q [] ms = refl
get-put_all q (e ∷ es) ms = get-put_all q es (put_if e.0 e.1 ms) ∙ ap (found q es) (get-put_if q e.0 e.1 ms)

-- ---- taken out again

same_bytes : (k : List ℕ) → bytes_eq k k ≡ true
same_bytes k = (bytes_eq-Decides k k).1 refl

test_of : (k l : List ℕ) (o : Ordering) → slice_cmp nat_cmp k l ≡ o → bytes_eq k l ≡ is_eq o
test_of k l o e = sym (is_eq-slice_cmp k l) ∙ ap is_eq e

without-put_at : (o : Ordering) (k l : List ℕ) (d e : Data) (ms : Members) → slice_cmp nat_cmp k l ≡ o → match_ordering o (get_member k ms) (Some e) (get_member k ms) ≡ None
    → (get_member k ms ≡ None → without k (put k d ms) ≡ ms)
    → without k (match_ordering o (member k d (member l e ms)) (member l d ms) (member l e (put k d ms))) ≡ member l e ms
without-put_at Less k l d e ms is h rest = rw same_bytes
without-put_at Equal k l d e ms is h rest = absurd (cc)
without-put_at Greater k l d e ms is h rest = rw (test_of k l Greater is, rest h)

pub without-put : (k : List ℕ) (d : Data) (ms : Members) → get_member k ms ≡ None → without k (put k d ms) ≡ ms
without-put k d no_members h = rw same_bytes
without-put k d (member l e ms) h = without-put_at (slice_cmp nat_cmp k l) k l d e ms refl h (λ g. without-put k d ms g)

without_at : (o : Ordering) (k l : List ℕ) (e : Data) (ms : Members) → slice_cmp nat_cmp k l ≡ o → match_ordering o (get_member k ms) (Some e) (get_member k ms) ≡ None
    → (get_member k ms ≡ None → without k ms ≡ ms) → without k (member l e ms) ≡ member l e ms
without_at Less k l e ms is h rest = rw (test_of k l Less is, rest h)
without_at Equal k l e ms is h rest = absurd (cc)
without_at Greater k l e ms is h rest = rw (test_of k l Greater is, rest h)

pub without_absent : (k : List ℕ) (ms : Members) → get_member k ms ≡ None → without k ms ≡ ms
without_absent k no_members h = refl
without_absent k (member l e ms) h = without_at (slice_cmp nat_cmp k l) k l e ms refl h (λ g. without_absent k ms g)

without-put_if : (k : List ℕ) (o : Option Data) (ms : Members) → get_member k ms ≡ None → without k (put_if k o ms) ≡ ms
without-put_if k None ms h = without_absent k ms h
without-put_if k (Some d) ms h = without-put k d ms h

still_none : (q k : List ℕ) (o : Option Data) (ms : Members) → bytes_eq q k ≡ false → get_member q ms ≡ None → get_member q (put_if k o ms) ≡ None
still_none q k o ms apart h = get-put_if q k o ms ∙ rw (apart, h)

HasNone-put_if : (k : List ℕ) (o : Option Data) (es : List Entry) (ms : Members) → is_apart k es ≡ true → HasNone (names es) ms → HasNone (names es) (put_if k o ms)
HasNone-put_if k o [] ms apart h = tt
HasNone-put_if k o (e ∷ es) ms apart h =
    let parts = both_true (not (bytes_eq e.0 k)) (is_apart k es) apart in
    (still_none e.0 k o ms (not_true (bytes_eq e.0 k) parts.0) h.0, HasNone-put_if k o es ms parts.1 h.1)

pub without_all-put_all : (es : List Entry) (ms : Members) → is_distinct es ≡ true → HasNone (names es) ms → without_all (names es) (put_all es ms) ≡ ms
without_all-put_all [] ms d h = refl
without_all-put_all (e ∷ es) ms d h =
    let parts = both_true (is_apart e.0 es) (is_distinct es) d in
    ap (without e.0) (without_all-put_all es (put_if e.0 e.1 ms) parts.1 (HasNone-put_if e.0 e.1 es ms parts.0 h.1)) ∙ without-put_if e.0 e.1 ms h.0
