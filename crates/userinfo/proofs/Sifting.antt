-- Names that are taken out one after another where they do not pass a test: the members that pass it are left.
use Rattle.std.proofs.Common.{◌≡◌, ◌≤◌, ℕ, Bool, true, false, cond, List, [], ◌∷◌, length, drop, Less, is_eq, refl, sym, ap, ◌∙◌, true≢false}
use Rattle.std.proofs.lemmas.List.{drop_all}
use Rattle.std.specs.Ordering.{nat_cmp}
use Rattle.std.specs.Cmp.Lexicographic.{slice_cmp}
use Rattle.std.specs.Str.{bytes_eq}
use Rattle.std.proofs.lemmas.Map.Text.{is_eq-slice_cmp}
use Rattle.std.proofs.lemmas.Slice.Eq.{bytes_eq-Decides}
use Rattle.serde_json.specs.Data.{Data, Members, no_members, member}
use Rattle.claim_set.specs.Claims.{member_names, without}
use Rattle.claim_set.specs.Fitting.{IsBefore, InOrder}
use Rattle.userinfo.specs.Held.{members_with}

-- the members less those of the names that do not pass
abbrev pub sifted : (List ℕ → Bool) → List (List ℕ) → Members → Members
sifted test [] ms = ms
sifted test (k ∷ names) ms = sifted test names (cond (test k) ms (without k ms))

same_bytes : (k : List ℕ) → bytes_eq k k ≡ true
same_bytes k = (bytes_eq-Decides k k).1 refl

-- a name that stands before another is another
apart_at : (k l : List ℕ) (t : Bool) → bytes_eq l k ≡ t → slice_cmp nat_cmp k l ≡ Less → t ≡ false
apart_at k l true is before =
    let same : l ≡ k = (bytes_eq-Decides l k).0 is in
    let equal : bytes_eq k l ≡ true = (bytes_eq-Decides k l).1 (sym same) in
    absurd (true≢false (sym equal ∙ sym (is_eq-slice_cmp k l) ∙ ap is_eq before))
apart_at k l false is before = refl

apart : (k l : List ℕ) → slice_cmp nat_cmp k l ≡ Less → bytes_eq l k ≡ false
apart k l before = apart_at k l (bytes_eq l k) refl before

-- a name before all those that are gone over stays
keeps_at : (test : List ℕ → Bool) (k l : List ℕ) (d : Data) (rest ms : Members) (t : Bool) → bytes_eq l k ≡ false
    → ((ns : Members) → sifted test (member_names rest) (member k d ns) ≡ member k d (sifted test (member_names rest) ns))
    → sifted test (member_names rest) (cond t (member k d ms) (without l (member k d ms))) ≡ member k d (sifted test (member_names rest) (cond t ms (without l ms)))
keeps_at test k l d rest ms true other h = h ms
keeps_at test k l d rest ms false other h = rw other (h (without l ms))

keeps_first : (test : List ℕ → Bool) (k : List ℕ) (d : Data) (rest : Members) → IsBefore k rest → (ms : Members) → sifted test (member_names rest) (member k d ms) ≡ member k d (sifted test (member_names rest) ms)
keeps_first test k d no_members before ms = refl
keeps_first test k d (member l e rest) before ms = keeps_at test k l d rest ms (test l) (apart k l before.0) (keeps_first test k d rest before.1)

sifts_at : (test : List ℕ → Bool) (k : List ℕ) (d : Data) (ms : Members) (t : Bool) → IsBefore k ms → sifted test (member_names ms) ms ≡ members_with test ms
    → sifted test (member_names ms) (cond t (member k d ms) (without k (member k d ms))) ≡ cond t (member k d (members_with test ms)) (members_with test ms)
sifts_at test k d ms true before h = keeps_first test k d ms before ms ∙ ap (member k d) h
sifts_at test k d ms false before h = rw (same_bytes k) h

pub sifted_all : (test : List ℕ → Bool) (ms : Members) → InOrder ms → sifted test (member_names ms) ms ≡ members_with test ms
sifted_all test no_members h = refl
sifted_all test (member k d ms) h = sifts_at test k d ms (test k) h.0 (sifted_all test ms h.1)

-- where all the names were gone over, the members that pass are left
pub sifted_through : (test : List ℕ → Bool) (names : List (List ℕ)) (ms after : Members) (place : ℕ) → length names ≤ place → names ≡ member_names ms → InOrder ms
    → sifted test (drop place names) after ≡ sifted test names ms → after ≡ members_with test ms
sifted_through test names ms after place past same order h =
    let S : List (List ℕ) → Members = λ ks. sifted test ks after in
    let N : List (List ℕ) → Members = λ ks. sifted test ks ms in
    sym (ap S (drop_all place names past)) ∙ h ∙ ap N same ∙ sifted_all test ms order
