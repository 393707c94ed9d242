-- The members whose names pass a test.
use Rattle.std.proofs.Common.{◌≡◌, ◌≤◌, ◌+◌, ℕ, suc, List, ◌∷◌, ◌++◌, length, Bool, true, false, cond, Option, Some, None, refl, sym, ap, ◌∙◌, subst, arith, length-append}
use Rattle.std.specs.Str.{bytes_eq}
use Rattle.std.proofs.lemmas.Cmp.{nat_list_cmp_total, tied_itself}
use Rattle.std.proofs.lemmas.Slice.Eq.{bytes_eq-Decides}
use Rattle.json.specs.Print.{quoted}
use Rattle.serde_json.specs.Data.{Data, Members, no_members, member, members_depth}
use Rattle.serde_json.specs.Find.{get_member}
use Rattle.serde_json.specs.Written.{compact_text, members_text, comma_if}
use Rattle.claim_set.specs.Fitting.{IsBefore, MembersFit, ClaimsFit}
use Rattle.claim_set.specs.Reading.{claims_text}
use Rattle.claim_set.proofs.Fitting.{skips}
use Rattle.userinfo.specs.Held.{members_with}

-- ---- what stands at a name

abbrev no_data : Option Data
no_data = None

either_none : (t : Bool) → no_data ≡ cond t None None
either_none true = refl
either_none false = refl

found_here : (k : List ℕ) (d : Data) (ms : Members) → get_member k (member k d ms) ≡ Some d
found_here k d ms = rw (tied_itself nat_list_cmp_total k)

-- at the name that is looked for, and at another
same_at : (test : List ℕ → Bool) (k : List ℕ) (d : Data) (ms rest : Members) (t : Bool) → test k ≡ t → get_member k rest ≡ cond (test k) (get_member k ms) None
    → get_member k (cond t (member k d rest) rest) ≡ cond t (get_member k (member k d ms)) None
same_at test k d ms rest true is h = found_here k d rest ∙ sym (found_here k d ms)
same_at test k d ms rest false is h = h ∙ rw is refl

other_at : (q k : List ℕ) (d : Data) (ms rest : Members) (t u : Bool) → bytes_eq q k ≡ false → get_member q rest ≡ cond u (get_member q ms) None
    → get_member q (cond t (member k d rest) rest) ≡ cond u (get_member q (member k d ms)) None
other_at q k d ms rest true u apart h = skips q k d rest apart ∙ h ∙ ap (λ o. cond u o None) (sym (skips q k d ms apart))
other_at q k d ms rest false u apart h = h ∙ ap (λ o. cond u o None) (sym (skips q k d ms apart))

at_name : (test : List ℕ → Bool) (q k : List ℕ) (d : Data) (ms rest : Members) (e : Bool) → bytes_eq q k ≡ e → get_member q rest ≡ cond (test q) (get_member q ms) None
    → get_member q (cond (test k) (member k d rest) rest) ≡ cond (test q) (get_member q (member k d ms)) None
at_name test q k d ms rest true is h =
    let same : q ≡ k = (bytes_eq-Decides q k).0 is in
    subst (λ x. get_member x rest ≡ cond (test x) (get_member x ms) None → get_member x (cond (test k) (member k d rest) rest) ≡ cond (test x) (get_member x (member k d ms)) None)
    (sym same) (λ g. same_at test k d ms rest (test k) refl g) h
at_name test q k d ms rest false is h = other_at q k d ms rest (test k) (test q) is h

pub get-members_with : (test : List ℕ → Bool) (q : List ℕ) (ms : Members) → get_member q (members_with test ms) ≡ cond (test q) (get_member q ms) None
get-members_with test q no_members = either_none (test q)
get-members_with test q (member k d ms) = at_name test q k d ms (members_with test ms) (bytes_eq q k) refl (get-members_with test q ms)

-- ---- they fit

before_at : (q k : List ℕ) (d : Data) (ms rest : Members) (t : Bool) → IsBefore q (member k d ms) → IsBefore q rest → IsBefore q (cond t (member k d rest) rest)
before_at q k d ms rest true h r = (h.0, r)
before_at q k d ms rest false h r = r

before-members_with : (test : List ℕ → Bool) (q : List ℕ) (ms : Members) → IsBefore q ms → IsBefore q (members_with test ms)
before-members_with test q no_members h = tt
before-members_with test q (member k d ms) h = before_at q k d ms (members_with test ms) (test k) h (before-members_with test q ms h.1)

fits_at : (k : List ℕ) (d : Data) (ms rest : Members) (t : Bool) → MembersFit (member k d ms) → IsBefore k rest → MembersFit rest → MembersFit (cond t (member k d rest) rest)
fits_at k d ms rest true h b r = (h.0, h.1, b, r)
fits_at k d ms rest false h b r = r

members_fit : (test : List ℕ → Bool) (ms : Members) → MembersFit ms → MembersFit (members_with test ms)
members_fit test no_members h = tt
members_fit test (member k d ms) h = fits_at k d ms (members_with test ms) (test k) h (before-members_with test k ms h.2) (members_fit test ms h.3)

depth_at : (k : List ℕ) (d : Data) (ms rest : Members) (t : Bool) → members_depth rest ≤ members_depth ms → members_depth (cond t (member k d rest) rest) ≤ members_depth (member k d ms)
depth_at k d ms rest true h = omega (arith, h)
depth_at k d ms rest false h = omega (arith, h)

no_deeper : (test : List ℕ → Bool) (ms : Members) → members_depth (members_with test ms) ≤ members_depth ms
no_deeper test no_members = omega arith
no_deeper test (member k d ms) = depth_at k d ms (members_with test ms) (test k) (no_deeper test ms)

pub ClaimsFit-members_with : (test : List ℕ → Bool) (ms : Members) → ClaimsFit ms → ClaimsFit (members_with test ms)
ClaimsFit-members_with test ms h = record { members = members_fit test ms h.members; nests = omega (arith, no_deeper test ms, h.nests) }

-- ---- their text is no longer

length-comma : (b : Bool) → length (comma_if b) ≤ 1
length-comma true = omega arith
length-comma false = omega arith

length-member : (b : Bool) (k : List ℕ) (d : Data) (ms : Members) → length (members_text b (member k d ms)) ≡ length (comma_if b) + (length (quoted k) + (1 + (length (compact_text d) + length (members_text true ms))))
length-member b k d ms = omega (arith, length-append (comma_if b) (quoted k ++ 58 ∷ (compact_text d ++ members_text true ms)), length-append (quoted k) (58 ∷ (compact_text d ++ members_text true ms)), length-append (compact_text d) (members_text true ms))

kept_fits : (c q d r s m n : ℕ) → m ≡ c + (q + (1 + (d + r))) → n ≡ c + (q + (1 + (d + s))) → r ≤ s → m ≤ n
kept_fits c q d r s m n f g h = omega arith

-- without a comma no text is longer, so a member that is left out takes its own text away, and more
uncommaed_at : (b : Bool) (ms : Members) → length (members_text b ms) ≤ length (members_text true ms)
uncommaed_at b no_members = omega arith
uncommaed_at b (member k d ms) = omega (arith, length-member b k d ms, length-member true k d ms, length-comma b)

dropped_fits : (c q d r s t m : ℕ) → m ≡ c + (q + (1 + (d + s))) → r ≤ t → t ≤ s → r ≤ m
dropped_fits c q d r s t m f g h = omega arith

short_at : (b : Bool) (k : List ℕ) (d : Data) (ms rest : Members) (t : Bool) → ((c : Bool) → length (members_text c rest) ≤ length (members_text c ms))
    → length (members_text b (cond t (member k d rest) rest)) ≤ length (members_text b (member k d ms))
short_at b k d ms rest true h = kept_fits _ _ _ _ _ _ _ (length-member b k d rest) (length-member b k d ms) (h true)
short_at b k d ms rest false h = dropped_fits _ _ _ _ _ _ _ (length-member b k d ms) (h b) (uncommaed_at b ms)

no_longer : (test : List ℕ → Bool) (ms : Members) (b : Bool) → length (members_text b (members_with test ms)) ≤ length (members_text b ms)
no_longer test no_members b = omega arith
no_longer test (member k d ms) b = short_at b k d ms (members_with test ms) (test k) (no_longer test ms)

one_more : (m n : ℕ) → m ≤ n → suc m ≤ suc n
one_more m n h = omega arith

pub length-members_with : (test : List ℕ → Bool) (ms : Members) → length (claims_text (members_with test ms)) ≤ length (claims_text ms)
length-members_with test ms = one_more _ _ (no_longer test ms false)
