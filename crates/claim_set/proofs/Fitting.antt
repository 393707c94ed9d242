-- Claims that fit still do when a name is set or taken out, and a name that was taken out is absent.
use Rattle.std.proofs.Common.{◌≡◌, ◌≤◌, ◌<◌, ◌^◌, List, [], ◌∷◌, option_map, ℕ, Bool, true, false, cond, Option, Some, None, Ordering, Less, Equal, Greater, is_eq, refl, sym, ap, ◌∙◌, arith, true≢false}
use Rattle.std.specs.Prelude.{IfSome}
use Rattle.std.specs.Ordering.{nat_cmp, ordering_reverse, match_ordering}
use Rattle.std.specs.Cmp.Lexicographic.{slice_cmp}
use Rattle.std.specs.Str.{IsUtf8, bytes_eq}
use Rattle.std.proofs.lemmas.Cmp.{nat_list_cmp_total}
use Rattle.std.proofs.lemmas.Map.Text.{is_eq-slice_cmp}
use Rattle.std.proofs.lemmas.Slice.Eq.{bytes_eq-Decides}
use Rattle.serde_json.specs.Data.{Data, string, Members, no_members, member, put, depth, items_depth}
use Rattle.serde_json.specs.Find.{get_member}
use Rattle.sso_base.specs.Values.{AreTexts}
use Rattle.claim_set.specs.Building.{Entry, put_if, put_all, number_value, audience}
use Rattle.claim_set.specs.Claims.{without, text_items}
use Rattle.claim_set.specs.Fitting.{IsBefore, Fits, ItemsFit, MembersFit, ClaimsFit, EntriesFit}
use Rattle.claim_set.proofs.Puts.{members_depth-put}
use Rattle.claim_set.proofs.Lookups.{members_depth-without}

-- ---- a name that is set

before_put_at : (o : Ordering) (q k l : List ℕ) (d e : Data) (ms : Members) → slice_cmp nat_cmp q k ≡ Less → slice_cmp nat_cmp q l ≡ Less → IsBefore q ms → IsBefore q (put k d ms)
    → IsBefore q (match_ordering o (member k d (member l e ms)) (member l d ms) (member l e (put k d ms)))
before_put_at Less q k l d e ms h g b r = (h, (g, b))
before_put_at Equal q k l d e ms h g b r = (g, b)
before_put_at Greater q k l d e ms h g b r = (g, r)

pub IsBefore-put : (q k : List ℕ) (d : Data) (ms : Members) → slice_cmp nat_cmp q k ≡ Less → IsBefore q ms → IsBefore q (put k d ms)
IsBefore-put q k d no_members h b = (h, tt)
IsBefore-put q k d (member l e ms) h b = before_put_at (slice_cmp nat_cmp k l) q k l d e ms h b.0 b.1 (IsBefore-put q k d ms h b.1)

pub below : (q k : List ℕ) (ms : Members) → slice_cmp nat_cmp q k ≡ Less → IsBefore k ms → IsBefore q ms
below q k no_members h b = tt
below q k (member l d ms) h b = (nat_list_cmp_total.trans q k l h b.0, below q k ms h b.1)

fits_put_at : (o : Ordering) (k l : List ℕ) (d e : Data) (ms : Members) → slice_cmp nat_cmp k l ≡ o → IsUtf8 k → Fits d → MembersFit (member l e ms) → MembersFit (put k d ms)
    → MembersFit (match_ordering o (member k d (member l e ms)) (member l d ms) (member l e (put k d ms)))
fits_put_at Less k l d e ms is u f h r = (u, f, (is, below k l ms is h.2), h)
fits_put_at Equal k l d e ms is u f h r = (h.0, f, h.2, h.3)
fits_put_at Greater k l d e ms is u f h r =
    let above : slice_cmp nat_cmp l k ≡ Less = nat_list_cmp_total.antisymm l k ∙ ap ordering_reverse is in
    (h.0, h.1, IsBefore-put l k d ms above h.2, r)

pub MembersFit-put : (k : List ℕ) (d : Data) (ms : Members) → IsUtf8 k → Fits d → MembersFit ms → MembersFit (put k d ms)
MembersFit-put k d no_members u f h = (u, f, tt, tt)
MembersFit-put k d (member l e ms) u f h = fits_put_at (slice_cmp nat_cmp k l) k l d e ms refl u f h (MembersFit-put k d ms u f h.3)

pub ClaimsFit-none : ClaimsFit no_members
ClaimsFit-none = record { members = tt; nests = omega arith }

pub ClaimsFit-put : (k : List ℕ) (d : Data) (ms : Members) → IsUtf8 k → Fits d → depth d ≤ 126 → ClaimsFit ms → ClaimsFit (put k d ms)
ClaimsFit-put k d ms u f n h = record {
  members = MembersFit-put k d ms u f h.members;
  nests = omega (arith, members_depth-put k d ms 126 n (omega (arith, h.nests)));
}

-- ---- a name that is taken out

before_without_at : (q l : List ℕ) (e : Data) (ms rest : Members) (t : Bool) → IsBefore q (member l e ms) → IsBefore q rest → IsBefore q (cond t ms (member l e rest))
before_without_at q l e ms rest true b r = b.1
before_without_at q l e ms rest false b r = (b.0, r)

IsBefore-without : (q k : List ℕ) (ms : Members) → IsBefore q ms → IsBefore q (without k ms)
IsBefore-without q k no_members b = tt
IsBefore-without q k (member l e ms) b = before_without_at q l e ms (without k ms) (bytes_eq k l) b (IsBefore-without q k ms b.1)

fits_without_at : (l : List ℕ) (e : Data) (ms rest : Members) (t : Bool) → MembersFit (member l e ms) → IsBefore l rest → MembersFit rest → MembersFit (cond t ms (member l e rest))
fits_without_at l e ms rest true h b r = h.3
fits_without_at l e ms rest false h b r = (h.0, h.1, b, r)

pub MembersFit-without : (k : List ℕ) (ms : Members) → MembersFit ms → MembersFit (without k ms)
MembersFit-without k no_members h = tt
MembersFit-without k (member l e ms) h = fits_without_at l e ms (without k ms) (bytes_eq k l) h (IsBefore-without l k ms h.2) (MembersFit-without k ms h.3)

pub ClaimsFit-without : (k : List ℕ) (ms : Members) → ClaimsFit ms → ClaimsFit (without k ms)
ClaimsFit-without k ms h = record {
  members = MembersFit-without k ms h.members;
  nests = omega (arith, members_depth-without k ms, h.nests);
}

either : (o : Ordering) (a b : Option Data) → is_eq o ≡ false → match_ordering o a b a ≡ a
either Less a b e = refl
either Equal a b e = absurd (true≢false e)
either Greater a b e = refl

pub skips : (q l : List ℕ) (e : Data) (ms : Members) → bytes_eq q l ≡ false → get_member q (member l e ms) ≡ get_member q ms
skips q l e ms is = either (slice_cmp nat_cmp q l) (get_member q ms) (Some e) (is_eq-slice_cmp q l ∙ is)

pub absent_before : (k : List ℕ) (ms : Members) → IsBefore k ms → get_member k ms ≡ None
absent_before k no_members b = refl
absent_before k (member l e ms) b = rw b.0 (absent_before k ms b.1)

absent_at : (k l : List ℕ) (e : Data) (ms rest : Members) (t : Bool) → bytes_eq k l ≡ t → IsBefore l ms → get_member k rest ≡ None → get_member k (cond t ms (member l e rest)) ≡ None
absent_at k l e ms rest true is b h = let same : k ≡ l = (bytes_eq-Decides k l).0 is in rw same (absent_before l ms b)
absent_at k l e ms rest false is b h = skips k l e rest is ∙ h

pub get_member-without : (k : List ℕ) (ms : Members) → MembersFit ms → get_member k (without k ms) ≡ None
get_member-without k no_members h = refl
get_member-without k (member l e ms) h = absent_at k l e ms (without k ms) (bytes_eq k l) refl h.2 (get_member-without k ms h.3)

differ : (q k : List ℕ) (t : Bool) → bytes_eq q k ≡ t → (q ≡ k → ⊥) → t ≡ false
differ q k true is other = absurd (other ((bytes_eq-Decides q k).0 is))
differ q k false is other = refl

other_at : (q k l : List ℕ) (e : Data) (ms rest : Members) (t : Bool) → bytes_eq k l ≡ t → (q ≡ k → ⊥) → get_member q rest ≡ get_member q ms → get_member q (cond t ms (member l e rest)) ≡ get_member q (member l e ms)
other_at q k l e ms rest true is other h =
    let same : k ≡ l = (bytes_eq-Decides k l).0 is in
    let apart : bytes_eq q l ≡ false = differ q l (bytes_eq q l) refl (λ g. other (g ∙ sym same)) in
    sym (skips q l e ms apart)
other_at q k l e ms rest false is other h = ap (λ r. match_ordering (slice_cmp nat_cmp q l) r (Some e) r) h

pub get_member-without_other : (q k : List ℕ) (ms : Members) → (q ≡ k → ⊥) → get_member q (without k ms) ≡ get_member q ms
get_member-without_other q k no_members other = refl
get_member-without_other q k (member l e ms) other = other_at q k l e ms (without k ms) (bytes_eq k l) refl other (get_member-without_other q k ms other)

-- ---- several names set one after another

ClaimsFit-put_if : (k : List ℕ) (o : Option Data) (ms : Members) → IsUtf8 k → IfSome o (λ d. Fits d × (depth d ≤ 126)) → ClaimsFit ms → ClaimsFit (put_if k o ms)
ClaimsFit-put_if k None ms u h fit = fit
ClaimsFit-put_if k (Some d) ms u h fit = ClaimsFit-put k d ms u h.0 h.1 fit

pub ClaimsFit-put_all : (es : List Entry) (ms : Members) → EntriesFit es → ClaimsFit ms → ClaimsFit (put_all es ms)
ClaimsFit-put_all [] ms h fit = fit
ClaimsFit-put_all (e ∷ es) ms h fit = ClaimsFit-put_all es (put_if e.0 e.1 ms) h.2 (ClaimsFit-put_if e.0 e.1 ms h.0 h.1 fit)

-- ---- the values that tokens have

pub text_fits : (o : Option (List ℕ)) → IfSome o IsUtf8 → IfSome (option_map string o) (λ d. Fits d × (depth d ≤ 126))
text_fits None h = tt
text_fits (Some s) h = (h, omega arith)

below_64 : (n : ℕ) → n < 2 ^ 40 → n < 2 ^ 64
below_64 n h = omega arith

pub number_fits : (o : Option ℕ) → IfSome o (λ n. n < 2 ^ 40) → IfSome (option_map number_value o) (λ d. Fits d × (depth d ≤ 126))
number_fits None h = tt
number_fits (Some n) h = (below_64 n h, omega arith)

items_fit : (ts : List (List ℕ)) → AreTexts ts → ItemsFit (text_items ts)
items_fit [] h = tt
items_fit (t ∷ ts) h = (h.0, items_fit ts h.1)

items_are_flat : (ts : List (List ℕ)) → items_depth (text_items ts) ≡ 0
items_are_flat [] = refl
items_are_flat (t ∷ ts) = rw (items_are_flat ts) refl

pub audience_fits : (ts : List (List ℕ)) → AreTexts ts → Fits (audience ts) × (depth (audience ts) ≤ 126)
audience_fits [] h = (tt, omega arith)
audience_fits (t ∷ []) h = (h.0, omega arith)
audience_fits (t ∷ s ∷ ts) h = (items_fit (t ∷ s ∷ ts) h, rw (items_are_flat (t ∷ s ∷ ts)) (omega arith))
