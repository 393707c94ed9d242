-- The claims that are told of a user.
use Rattle.std.proofs.Common.{◌≡◌, ◌≢◌, ◌≤◌, ◌+◌, ◌*◌, ℕ, zero, suc, List, [], ◌∷◌, length, get_or, Bool, true, false, ◌&&◌, ◌||◌, cond, nat_le, codes, Option, Some, None, slice_get, refl, sym, ap, ◌∙◌, subst, arith}
use Rattle.std.specs.List.{AllByRecursion}
use Rattle.std.specs.Str.{IsUtf8}
use Rattle.std.proofs.lemmas.Bool.{leb-true}
use Rattle.std.proofs.lemmas.Str.{IsUtf8-from_ascii, IsUtf8-nil}
use Rattle.json.specs.Print.{escape_byte, quoted}
use Rattle.json.proofs.Printed.Utf8.{IsUtf8-are_ascii}
use Rattle.serde_json.specs.Data.{string, Members, no_members}
use Rattle.serde_json.specs.Find.{get_member}
use Rattle.serde_json.proofs.Views.{get_member-put, get_member-put_other}
use Rattle.claim_set.specs.Fitting.{ClaimsFit}
use Rattle.claim_set.specs.Reading.{claims_text, Reads}
use Rattle.claim_set.proofs.Fitting.{ClaimsFit-none, ClaimsFit-put}
use Rattle.claim_set.proofs.Sizes.{length-claims_text-put, length-quoted}
use Rattle.client_registry.specs.declared.records.User.{User}
use Rattle.client_registry.specs.Configuration.{Configuration, subject_at}
use Rattle.client_registry.specs.Registered.{IsUser, IsSubject, IsRegistry}
use Rattle.oidc_words.specs.declared.scopes.Scopes.{Scopes}
use Rattle.oidc_words.specs.Words.{is_one_of}
use Rattle.oidc_words.specs.Claims.{is_claim_of, is_standard_claim}
use Rattle.oidc_words.proofs.Asking.{asked_are_standard}
use Rattle.userinfo.specs.Held.{is_wanted, text_claims, claims_of, user_claims, held_members, info_members}
use Rattle.userinfo.proofs.Filtered.{get-members_with, ClaimsFit-members_with, length-members_with}
use Rattle.userinfo.proofs.UserTexts.{at_place, text_is, text_reads, text_fits, user_holds}

-- ---- the claims that users hold

pub claims_are_of : (c : Configuration) (n : ℕ) (u : User) → slice_get c.users n ≡ Some u → user_claims c n ≡ text_claims u.claims
unfolding user_claims
claims_are_of c n u is = ap claims_of is

pub claims_stand : (c : Configuration) (n : ℕ) (u : User) → IsRegistry c → slice_get c.users n ≡ Some u → Reads u.claims (user_claims c n)
claims_stand c n u r is = subst (Reads u.claims) (sym (claims_are_of c n u is)) (text_reads u.claims (user_holds c n u r is))

-- what claims of a registry's user keep: they fit, and their text is not long
record AreSmall (ms : Members) : Type 0 where
  fits : ClaimsFit ms
  short : length (claims_text ms) ≤ 2048

none_are_small : AreSmall no_members
none_are_small = record { fits = ClaimsFit-none; short = omega arith }

held_are_small : (c : Configuration) (n : ℕ) (o : Option User) → IsRegistry c → slice_get c.users n ≡ o → AreSmall (claims_of o)
held_are_small c n None r is = none_are_small
held_are_small c n (Some u) r is =
    let holds = user_holds c n u r is in
    let rules = at_place IsUser c.users n u r.user_rules is in
    let same : claims_text (text_claims u.claims) ≡ u.claims = ap claims_text (text_is u.claims holds) ∙ sym holds.text in
    record { fits = text_fits u.claims holds; short = omega (arith, rules.claims, ap length same) }

small_claims : (c : Configuration) (n : ℕ) → IsRegistry c → AreSmall (user_claims c n)
unfolding user_claims
small_claims c n r = held_are_small c n (slice_get c.users n) r refl

-- ---- what is wanted of them

pub held_at : (c : Configuration) (n : ℕ) (s : Scopes) (asked : List (List ℕ)) (k : List ℕ) → get_member k (held_members c n s asked) ≡ cond (is_wanted s asked k) (get_member k (user_claims c n)) None
unfolding held_members
held_at c n s asked k = get-members_with (is_wanted s asked) k (user_claims c n)

pub wanted_is_held : (c : Configuration) (n : ℕ) (s : Scopes) (asked : List (List ℕ)) (k : List ℕ) → is_wanted s asked k ≡ true → get_member k (held_members c n s asked) ≡ get_member k (user_claims c n)
wanted_is_held c n s asked k h = held_at c n s asked k ∙ ap (λ b. cond b (get_member k (user_claims c n)) None) h

pub unwanted_is_absent : (c : Configuration) (n : ℕ) (s : Scopes) (asked : List (List ℕ)) (k : List ℕ) → is_wanted s asked k ≡ false → get_member k (held_members c n s asked) ≡ None
unwanted_is_absent c n s asked k h = held_at c n s asked k ∙ ap (λ b. cond b (get_member k (user_claims c n)) None) h

unasked_at : (s : Scopes) (k : List ℕ) (t : Bool) → is_claim_of s k ≡ t → is_standard_claim k ≡ false → t ≡ false
unasked_at s k true is h = absurd (cc (asked_are_standard s k is, h))
unasked_at s k false is h = refl

unwanted : (a b c : Bool) → a ≡ false → b ≡ false → (a || (b && c)) ≡ false
unwanted a b c f g = rw (f, g) refl

pub unknown_is_unwanted : (s : Scopes) (asked : List (List ℕ)) (k : List ℕ) → is_standard_claim k ≡ false → is_wanted s asked k ≡ false
unknown_is_unwanted s asked k h = unwanted (is_claim_of s k) (is_standard_claim k) (is_one_of asked k) (unasked_at s k (is_claim_of s k) refl h) h

pub unknown_is_absent : (c : Configuration) (n : ℕ) (s : Scopes) (asked : List (List ℕ)) (k : List ℕ) → is_standard_claim k ≡ false → get_member k (held_members c n s asked) ≡ None
unknown_is_absent c n s asked k h = unwanted_is_absent c n s asked k (unknown_is_unwanted s asked k h)

-- ---- with the subject

pub subject_is_told : (c : Configuration) (client n : ℕ) (s : Scopes) (asked : List (List ℕ)) → get_member (codes "sub") (info_members c client n s asked) ≡ Some (string (subject_at c client n))
unfolding info_members
subject_is_told c client n s asked = get_member-put (codes "sub") (string (subject_at c client n)) (held_members c n s asked)

other_is_held : (c : Configuration) (client n : ℕ) (s : Scopes) (asked : List (List ℕ)) (k : List ℕ) → k ≢ codes "sub" → get_member k (info_members c client n s asked) ≡ get_member k (held_members c n s asked)
unfolding info_members
other_is_held c client n s asked k other = get_member-put_other k (codes "sub") (string (subject_at c client n)) (held_members c n s asked) other

pub wanted_is_told : (c : Configuration) (client n : ℕ) (s : Scopes) (asked : List (List ℕ)) (k : List ℕ) → k ≢ codes "sub" → is_wanted s asked k ≡ true → get_member k (info_members c client n s asked) ≡ get_member k (user_claims c n)
wanted_is_told c client n s asked k other h = other_is_held c client n s asked k other ∙ wanted_is_held c n s asked k h

pub unwanted_is_untold : (c : Configuration) (client n : ℕ) (s : Scopes) (asked : List (List ℕ)) (k : List ℕ) → k ≢ codes "sub" → is_wanted s asked k ≡ false → get_member k (info_members c client n s asked) ≡ None
unwanted_is_untold c client n s asked k other h = other_is_held c client n s asked k other ∙ unwanted_is_absent c n s asked k h

-- ---- they fit, and are not long

record IsShort (t : List ℕ) : Type 0 where
  ascii : IsUtf8 t
  short : length t ≤ 255

at_or : {X : Type 0} (P : X → Type 0) (xs : List X) (i : ℕ) (d : X) → AllByRecursion P xs → P d → P (get_or xs i d)
at_or P [] i d h g = g
at_or P (x ∷ xs) zero d h g = h.0
at_or P (x ∷ xs) (suc i) d h g = at_or P xs i d h.1 g

both : (a b : Bool) → (a && b) ≡ true → (a ≡ true) × (b ≡ true)
both true true h = (refl, refl)
both true false h = absurd (cc)
both false b h = absurd (cc)

short_subject : (t : List ℕ) → IsSubject t → IsShort t
short_subject t h = record {
  ascii = IsUtf8-from_ascii t h.ascii;
  short = leb-true (length t) 255 (both (nat_le 1 (length t)) (nat_le (length t) 255) h.within).1;
}

short_row : (ts : List (List ℕ)) → AllByRecursion IsSubject ts → AllByRecursion IsShort ts
short_row [] h = tt
short_row (t ∷ ts) h = (short_subject t h.0, short_row ts h.1)

short_rows : (rows : List (List (List ℕ))) → AllByRecursion (AllByRecursion IsSubject) rows → AllByRecursion (AllByRecursion IsShort) rows
short_rows [] h = tt
short_rows (row ∷ rows) h = (short_row row h.0, short_rows rows h.1)

no_subjects : AllByRecursion IsShort []
no_subjects = tt

subject_is_short : (c : Configuration) (client n : ℕ) → IsRegistry c → IsShort (subject_at c client n)
subject_is_short c client n r =
    at_or IsShort (get_or c.subjects client []) n []
    (at_or (λ row. AllByRecursion IsShort row) c.subjects client [] (short_rows c.subjects r.subject_rules) no_subjects)
    (record { ascii = IsUtf8-nil; short = omega arith })

pub held_fit : (c : Configuration) (n : ℕ) (s : Scopes) (asked : List (List ℕ)) → IsRegistry c → ClaimsFit (held_members c n s asked)
unfolding held_members
held_fit c n s asked r = ClaimsFit-members_with (is_wanted s asked) (user_claims c n) (small_claims c n r).fits

pub info_fit : (c : Configuration) (client n : ℕ) (s : Scopes) (asked : List (List ℕ)) → IsRegistry c → ClaimsFit (info_members c client n s asked)
unfolding info_members
info_fit c client n s asked r =
    ClaimsFit-put (codes "sub") (string (subject_at c client n)) (held_members c n s asked)
    (IsUtf8-are_ascii (codes "sub") refl) (subject_is_short c client n r).ascii (omega arith) (held_fit c n s asked r)

no_longer : (m n : ℕ) → m ≤ n → n ≤ 2048 → m ≤ 2048
no_longer m n h g = omega arith

pub held_length : (c : Configuration) (n : ℕ) (s : Scopes) (asked : List (List ℕ)) → IsRegistry c → length (claims_text (held_members c n s asked)) ≤ 2048
unfolding held_members
held_length c n s asked r = no_longer _ _ (length-members_with (is_wanted s asked) (user_claims c n)) (small_claims c n r).short

sum_fits : (m h q t s : ℕ) → m ≤ h + (q + (t + 2)) → h ≤ 2048 → q ≡ 5 → t ≤ 6 * s + 2 → s ≤ 255 → m ≤ 3587
sum_fits m h q t s f g i j k = omega arith

quoted_sub : length (quoted (codes "sub")) ≡ 5
unfolding escape_byte
quoted_sub = refl

pub info_length : (c : Configuration) (client n : ℕ) (s : Scopes) (asked : List (List ℕ)) → IsRegistry c → length (claims_text (info_members c client n s asked)) ≤ 3587
unfolding info_members
info_length c client n s asked r =
    sum_fits _ _ _ _ _
    (length-claims_text-put (codes "sub") (string (subject_at c client n)) (held_members c n s asked))
    (held_length c n s asked r) quoted_sub (length-quoted (subject_at c client n)) (subject_is_short c client n r).short
