-- Which claims scope values ask for, and which scope values claims need.
use Rattle.std.proofs.Common.{◌≡◌, ℕ, Bool, true, false, not, ◌&&◌, ◌||◌, List, [], ◌∷◌, refl, sym, ◌∙◌, subst, true≢false}
use Rattle.std.specs.List.{list_any, AllByRecursion}
use Rattle.std.specs.Str.{bytes_eq}
use Rattle.std.proofs.lemmas.Slice.Eq.{bytes_eq-Decides}
use Rattle.oidc_words.specs.declared.scopes.Scopes.{Scopes}
use Rattle.oidc_words.specs.Words.{is_one_of}
use Rattle.oidc_words.specs.Scopes.{no_scopes, all_scopes, joined, covers}
use Rattle.oidc_words.specs.Claims.{profile_claims, email_claims, address_claims, phone_claims, is_claim_of, is_standard_claim, scopes_with, with_scopes, scopes_with_any}
use Rattle.oidc_words.proofs.Covering.{both_true, covers_itself, covers_through, covers_either}

-- ---- flags

either : {R : Type 0} (a b : Bool) → (a || b) ≡ true → (a ≡ true → R) → (b ≡ true → R) → R
either true b h f g = f refl
either false b h f g = g h

shared : (a b c : Bool) → ((a || b) && c) ≡ ((a && c) || (b && c))
shared true true true = refl
shared true true false = refl
shared true false true = refl
shared true false false = refl
shared false b c = refl

-- four pairs, the first of each before the second of each
regrouped : (a b c d e f g h : Bool) → ((((a || b) || (c || d)) || (e || f)) || (g || h)) ≡ ((((a || c) || e) || g) || (((b || d) || f) || h))
regrouped true b c d e f g h = refl
regrouped false true true d e f g h = refl
regrouped false true false d true f g h = refl
regrouped false true false d false f true h = refl
regrouped false true false d false f false h = refl
regrouped false false true d e f g h = refl
regrouped false false false true true f g h = refl
regrouped false false false true false f true h = refl
regrouped false false false true false f false h = refl
regrouped false false false false true f g h = refl
regrouped false false false false false true true h = refl
regrouped false false false false false true false h = refl
regrouped false false false false false false true h = refl
regrouped false false false false false false false h = refl

pub asks_either : (s t : Scopes) (k : List ℕ) → is_claim_of (joined s t) k ≡ (is_claim_of s k || is_claim_of t k)
unfolding is_claim_of joined profile_claims email_claims address_claims phone_claims
asks_either s t k =
    rw (
      shared s.profile t.profile (is_one_of profile_claims k),
      shared s.email t.email (is_one_of email_claims k),
      shared s.address t.address (is_one_of address_claims k),
      shared s.phone t.phone (is_one_of phone_claims k),
    )
    (regrouped
    (s.profile && is_one_of profile_claims k) (t.profile && is_one_of profile_claims k)
    (s.email && is_one_of email_claims k) (t.email && is_one_of email_claims k)
    (s.address && is_one_of address_claims k) (t.address && is_one_of address_claims k)
    (s.phone && is_one_of phone_claims k) (t.phone && is_one_of phone_claims k))

pub none_asks : (k : List ℕ) → is_claim_of no_scopes k ≡ false
unfolding is_claim_of
none_asks k = refl

covered_flag : (a b c : Bool) → (a || not b) ≡ true → (b && c) ≡ true → (a && c) ≡ true
covered_flag true true c h g = g
covered_flag true false c h g = absurd (cc)
covered_flag false true c h g = absurd (cc)
covered_flag false false c h g = absurd (cc)

first_of : (a b : Bool) → a ≡ true → (a || b) ≡ true
first_of a b h = rw h

second_of : (a b : Bool) → b ≡ true → (a || b) ≡ true
second_of true b h = refl
second_of false b h = h

-- one of four
any_of_four : (p q r s a b c d : Bool) → (p ≡ true → a ≡ true) → (q ≡ true → b ≡ true) → (r ≡ true → c ≡ true) → (s ≡ true → d ≡ true)
    → (((p || q) || r) || s) ≡ true → (((a || b) || c) || d) ≡ true
any_of_four p q r s a b c d f g h i is =
    either ((p || q) || r) s is
    (λ three. first_of ((a || b) || c) d (
    either (p || q) r three
    (λ two. first_of (a || b) c (either p q two (λ e. first_of a b (f e)) (λ e. second_of a b (g e))))
    (λ e. second_of (a || b) c (h e))))
    (λ e. second_of ((a || b) || c) d (i e))

pub covering_asks : (s t : Scopes) (k : List ℕ) → covers s t ≡ true → is_claim_of t k ≡ true → is_claim_of s k ≡ true
unfolding is_claim_of
covering_asks s t k h g =
    let four = both_true ((s.openid || not t.openid) && (s.profile || not t.profile) && (s.email || not t.email) && (s.address || not t.address)) (s.phone || not t.phone) h in
    let three = both_true ((s.openid || not t.openid) && (s.profile || not t.profile) && (s.email || not t.email)) (s.address || not t.address) four.0 in
    let two = both_true ((s.openid || not t.openid) && (s.profile || not t.profile)) (s.email || not t.email) three.0 in
    let one = both_true (s.openid || not t.openid) (s.profile || not t.profile) two.0 in
    any_of_four
    (t.profile && is_one_of profile_claims k) (t.email && is_one_of email_claims k) (t.address && is_one_of address_claims k) (t.phone && is_one_of phone_claims k)
    (s.profile && is_one_of profile_claims k) (s.email && is_one_of email_claims k) (s.address && is_one_of address_claims k) (s.phone && is_one_of phone_claims k)
    (covered_flag s.profile t.profile (is_one_of profile_claims k) one.1)
    (covered_flag s.email t.email (is_one_of email_claims k) two.1)
    (covered_flag s.address t.address (is_one_of address_claims k) three.1)
    (covered_flag s.phone t.phone (is_one_of phone_claims k) four.1)
    g

pub asked_are_standard : (s : Scopes) (k : List ℕ) → is_claim_of s k ≡ true → is_standard_claim k ≡ true
asked_are_standard s k h = covering_asks all_scopes s k refl h

-- ---- the one scope value of a standard claim

-- what is true of each of the names is true of one of them
pub at_name : (P : List ℕ → Type 0) (names : List (List ℕ)) (k : List ℕ) → AllByRecursion P names → is_one_of names k ≡ true → P k
at_name P [] k h is = absurd (true≢false (sym is))
at_name P (n ∷ names) k h is =
    either (bytes_eq k n) (is_one_of names k) is
    (λ e. let same : k ≡ n = (bytes_eq-Decides k n).0 e in subst P (sym same) h.0)
    (λ e. at_name P names k h.1 e)

abbrev lone : Bool → Bool → Bool → Bool → Scopes
lone a b c d = record { openid = false; profile = a; email = b; address = c; phone = d }

profile_alone : (k : List ℕ) → is_one_of profile_claims k ≡ true → scopes_with k ≡ lone true false false false
unfolding scopes_with profile_claims email_claims address_claims phone_claims
profile_alone k h = at_name (λ n. scopes_with n ≡ lone true false false false) profile_claims k (refl, (refl, (refl, (refl, (refl, (refl, (refl, (refl, (refl, (refl, (refl, (refl, (refl, (refl, tt)))))))))))))) h

email_alone : (k : List ℕ) → is_one_of email_claims k ≡ true → scopes_with k ≡ lone false true false false
unfolding scopes_with profile_claims email_claims address_claims phone_claims
email_alone k h = at_name (λ n. scopes_with n ≡ lone false true false false) email_claims k (refl, (refl, tt)) h

address_alone : (k : List ℕ) → is_one_of address_claims k ≡ true → scopes_with k ≡ lone false false true false
unfolding scopes_with profile_claims email_claims address_claims phone_claims
address_alone k h = at_name (λ n. scopes_with n ≡ lone false false true false) address_claims k (refl, tt) h

phone_alone : (k : List ℕ) → is_one_of phone_claims k ≡ true → scopes_with k ≡ lone false false false true
unfolding scopes_with profile_claims email_claims address_claims phone_claims
phone_alone k h = at_name (λ n. scopes_with n ≡ lone false false false true) phone_claims k (refl, (refl, tt)) h

-- scope values share one with others
abbrev meets : Scopes → Scopes → Bool
meets s t = (((s.profile && t.profile) || (s.email && t.email)) || (s.address && t.address)) || (s.phone && t.phone)

asks_by_scope : (s : Scopes) (k : List ℕ) → is_claim_of s k ≡ meets s (scopes_with k)
unfolding is_claim_of scopes_with
asks_by_scope s k = refl

and_true : (a : Bool) → (a && true) ≡ a
and_true true = refl
and_true false = refl

and_false : (a : Bool) → (a && false) ≡ false
and_false true = refl
and_false false = refl

or_true : (a : Bool) → (a || true) ≡ true
or_true true = refl
or_true false = refl

or_false : (a : Bool) → (a || false) ≡ a
or_false true = refl
or_false false = refl

meets_profile : (s : Scopes) → meets s (lone true false false false) ≡ covers s (lone true false false false)
meets_profile s = rw (and_true s.profile, and_false s.email, and_false s.address, and_false s.phone, or_true s.openid, or_true s.email, or_true s.address, or_true s.phone, or_false s.profile, or_false s.profile, or_false s.profile, and_true s.profile, and_true s.profile, and_true s.profile)

meets_email : (s : Scopes) → meets s (lone false true false false) ≡ covers s (lone false true false false)
meets_email s = rw (and_true s.email, and_false s.profile, and_false s.address, and_false s.phone, or_true s.openid, or_true s.profile, or_true s.address, or_true s.phone, or_false s.email, or_false s.email, and_true s.email, and_true s.email)

meets_address : (s : Scopes) → meets s (lone false false true false) ≡ covers s (lone false false true false)
meets_address s = rw (and_true s.address, and_false s.profile, and_false s.email, and_false s.phone, or_true s.openid, or_true s.profile, or_true s.email, or_true s.phone, or_false s.address, and_true s.address)

meets_phone : (s : Scopes) → meets s (lone false false false true) ≡ covers s (lone false false false true)
meets_phone s = rw (and_true s.phone, and_false s.profile, and_false s.email, and_false s.address, or_true s.openid, or_true s.profile, or_true s.email, or_true s.address, or_false s.phone)

at_lone : (s t l : Scopes) → meets s l ≡ covers s l → t ≡ l → meets s t ≡ covers s t
at_lone s t l h is = subst (λ u. meets s u ≡ covers s u) (sym is) h

meets_covers : (s : Scopes) (k : List ℕ) → (((is_one_of profile_claims k || is_one_of email_claims k) || is_one_of address_claims k) || is_one_of phone_claims k) ≡ true → meets s (scopes_with k) ≡ covers s (scopes_with k)
meets_covers s k h =
    either ((is_one_of profile_claims k || is_one_of email_claims k) || is_one_of address_claims k) (is_one_of phone_claims k) h
    (λ three. either (is_one_of profile_claims k || is_one_of email_claims k) (is_one_of address_claims k) three
    (λ two. either (is_one_of profile_claims k) (is_one_of email_claims k) two
    (λ e. at_lone s (scopes_with k) (lone true false false false) (meets_profile s) (profile_alone k e))
    (λ e. at_lone s (scopes_with k) (lone false true false false) (meets_email s) (email_alone k e)))
    (λ e. at_lone s (scopes_with k) (lone false false true false) (meets_address s) (address_alone k e)))
    (λ e. at_lone s (scopes_with k) (lone false false false true) (meets_phone s) (phone_alone k e))

standard_in : (k : List ℕ) → is_standard_claim k ≡ true → (((is_one_of profile_claims k || is_one_of email_claims k) || is_one_of address_claims k) || is_one_of phone_claims k) ≡ true
unfolding is_claim_of
standard_in k h = h

pub asked_by_its_scope : (s : Scopes) (k : List ℕ) → is_standard_claim k ≡ true → is_claim_of s k ≡ covers s (scopes_with k)
asked_by_its_scope s k h = asks_by_scope s k ∙ meets_covers s k (standard_in k h)

-- ---- the scope values of several claims

or_assoc : (a b c : Bool) → ((a || b) || c) ≡ (a || (b || c))
or_assoc true b c = refl
or_assoc false b c = refl

keeps_openid : (s : Scopes) (ks : List (List ℕ)) → (with_scopes s ks).openid ≡ s.openid
unfolding scopes_with joined
keeps_openid s [] = refl
keeps_openid s (k ∷ ks) = keeps_openid (joined s (scopes_with k)) ks ∙ or_false s.openid

any_profile : (s : Scopes) (ks : List (List ℕ)) → (with_scopes s ks).profile ≡ (s.profile || list_any (is_one_of profile_claims) ks)
unfolding scopes_with joined
any_profile s [] = sym (or_false s.profile)
any_profile s (k ∷ ks) = any_profile (joined s (scopes_with k)) ks ∙ or_assoc s.profile (is_one_of profile_claims k) (list_any (is_one_of profile_claims) ks)

any_email : (s : Scopes) (ks : List (List ℕ)) → (with_scopes s ks).email ≡ (s.email || list_any (is_one_of email_claims) ks)
unfolding scopes_with joined
any_email s [] = sym (or_false s.email)
any_email s (k ∷ ks) = any_email (joined s (scopes_with k)) ks ∙ or_assoc s.email (is_one_of email_claims k) (list_any (is_one_of email_claims) ks)

any_address : (s : Scopes) (ks : List (List ℕ)) → (with_scopes s ks).address ≡ (s.address || list_any (is_one_of address_claims) ks)
unfolding scopes_with joined
any_address s [] = sym (or_false s.address)
any_address s (k ∷ ks) = any_address (joined s (scopes_with k)) ks ∙ or_assoc s.address (is_one_of address_claims k) (list_any (is_one_of address_claims) ks)

any_phone : (s : Scopes) (ks : List (List ℕ)) → (with_scopes s ks).phone ≡ (s.phone || list_any (is_one_of phone_claims) ks)
unfolding scopes_with joined
any_phone s [] = sym (or_false s.phone)
any_phone s (k ∷ ks) = any_phone (joined s (scopes_with k)) ks ∙ or_assoc s.phone (is_one_of phone_claims k) (list_any (is_one_of phone_claims) ks)

pub no_openid : (ks : List (List ℕ)) → (scopes_with_any ks).openid ≡ false
unfolding scopes_with_any
no_openid ks = keeps_openid no_scopes ks

pub profile_of_any : (ks : List (List ℕ)) → (scopes_with_any ks).profile ≡ list_any (is_one_of profile_claims) ks
unfolding scopes_with_any
profile_of_any ks = any_profile no_scopes ks

pub email_of_any : (ks : List (List ℕ)) → (scopes_with_any ks).email ≡ list_any (is_one_of email_claims) ks
unfolding scopes_with_any
email_of_any ks = any_email no_scopes ks

pub address_of_any : (ks : List (List ℕ)) → (scopes_with_any ks).address ≡ list_any (is_one_of address_claims) ks
unfolding scopes_with_any
address_of_any ks = any_address no_scopes ks

pub phone_of_any : (ks : List (List ℕ)) → (scopes_with_any ks).phone ≡ list_any (is_one_of phone_claims) ks
unfolding scopes_with_any
phone_of_any ks = any_phone no_scopes ks

covers_first : (s t : Scopes) → covers (joined s t) s ≡ true
covers_first s t = (both_true (covers (joined s t) s) (covers (joined s t) t) (sym (covers_either s t (joined s t)) ∙ covers_itself (joined s t))).0

covers_second : (s t : Scopes) → covers (joined s t) t ≡ true
covers_second s t = (both_true (covers (joined s t) s) (covers (joined s t) t) (sym (covers_either s t (joined s t)) ∙ covers_itself (joined s t))).1

grows : (s : Scopes) (ks : List (List ℕ)) → covers (with_scopes s ks) s ≡ true
grows s [] = covers_itself s
grows s (k ∷ ks) = covers_through (with_scopes (joined s (scopes_with k)) ks) (joined s (scopes_with k)) s (grows (joined s (scopes_with k)) ks) (covers_first s (scopes_with k))

covers_one : (s : Scopes) (k : List ℕ) (ks : List (List ℕ)) → is_one_of ks k ≡ true → covers (with_scopes s ks) (scopes_with k) ≡ true
covers_one s k [] h = absurd (true≢false (sym h))
covers_one s k (l ∷ ks) h =
    either (bytes_eq k l) (is_one_of ks k) h
    (λ e.
    let same : k ≡ l = (bytes_eq-Decides k l).0 e in
    subst (λ n. covers (with_scopes (joined s (scopes_with l)) ks) (scopes_with n) ≡ true) (sym same)
    (covers_through (with_scopes (joined s (scopes_with l)) ks) (joined s (scopes_with l)) (scopes_with l) (grows (joined s (scopes_with l)) ks) (covers_second s (scopes_with l))))
    (λ e. covers_one (joined s (scopes_with l)) k ks e)

pub covers_each_of : (k : List ℕ) (ks : List (List ℕ)) → is_one_of ks k ≡ true → covers (scopes_with_any ks) (scopes_with k) ≡ true
unfolding scopes_with_any
covers_each_of k ks h = covers_one no_scopes k ks h
