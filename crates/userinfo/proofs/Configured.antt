-- The claims that a configuration gives users are standard claims, and so are those of the users of a registry.
use Rattle.std.proofs.Common.{◌≡◌, ℕ, List, true, false, Option, Some, None, is_some, option_and_then, refl, sym, ap, ◌∙◌, subst, true≢false}
use Rattle.toml.specs.Data.{Data, Members, no_members, member, as_table}
use Rattle.serde_json.specs.Data as json
use Rattle.serde_json.specs.Find.{get_member}
use Rattle.serde_json.proofs.Views.{get_member-put_other}
use Rattle.oidc_words.specs.declared.claims.ClaimKind.{ClaimKind}
use Rattle.oidc_words.specs.Claims.{is_standard_claim, kind_of}
use Rattle.oidc_words.proofs.ClaimKinds.{has_kind as kind_is_standard}
use Rattle.configuration_rows.specs.Claims.{kind_value, claim_value, claims_onto, claims_in}
use Rattle.client_registry.specs.declared.records.User.{User}
use Rattle.client_registry.specs.ClaimKinds.{has_kind, AreKnown}
use Rattle.client_registry.specs.Configuration.{Configuration}
use Rattle.client_registry.specs.Numbers.{user_at}
use Rattle.client_registry.specs.Registered.{HoldsClaims, IsRegistry}
use Rattle.userinfo.specs.Held.{claims_of, user_claims}
use Rattle.userinfo.proofs.UserTexts.{text_is, user_holds}

known_at : (o : Option ClaimKind) (d : Data) (v : json.Data) → kind_value o d ≡ Some v → is_some o ≡ true
known_at None d v h = absurd (cc)
known_at (Some kind) d v h = refl

-- a claim that is given a value is a standard claim
known : (k : List ℕ) (d : Data) (v : json.Data) → claim_value k d ≡ Some v → is_standard_claim k ≡ true
known k d v h = sym (kind_is_standard k) ∙ known_at (kind_of k) d v h

not_both : (k n : List ℕ) → is_standard_claim k ≡ true → is_standard_claim n ≡ false → n ≡ k → ⊥
not_both k n h g same = absurd (cc (ap is_standard_claim same, h, g))

onto_at : (o : Option json.Data) (n k : List ℕ) (d : Data) (rest : Members) (claims ms : json.Members) → claim_value k d ≡ o → is_standard_claim n ≡ false → get_member n claims ≡ None
    → ((v : json.Data) → get_member n (json.put k v claims) ≡ None → claims_onto rest (json.put k v claims) ≡ Some ms → get_member n ms ≡ None)
    → option_and_then (λ v. claims_onto rest (json.put k v claims)) o ≡ Some ms → get_member n ms ≡ None
onto_at None n k d rest claims ms is h none goes e = absurd (cc)
onto_at (Some v) n k d rest claims ms is h none goes e = goes v (get_member-put_other n k v claims (not_both k n (known k d v is) h) ∙ none) e

none_onto : (n : List ℕ) (rest : Members) (claims ms : json.Members) → is_standard_claim n ≡ false → get_member n claims ≡ None → claims_onto rest claims ≡ Some ms → get_member n ms ≡ None
none_onto n no_members claims ms h none e = let same : claims ≡ ms = cc in subst (λ x. get_member n x ≡ None) same none
none_onto n (member k d rest) claims ms h none e = onto_at (claim_value k d) n k d rest claims ms refl h none (λ v gone g. none_onto n rest (json.put k v claims) ms h gone g) e

in_table : (o : Option Members) (n : List ℕ) (ms : json.Members) → is_standard_claim n ≡ false → option_and_then (λ rest. claims_onto rest json.no_members) o ≡ Some ms → get_member n ms ≡ None
in_table None n ms h e = absurd (cc)
in_table (Some rest) n ms h e = none_onto n rest json.no_members ms h refl e

pub configured_are_standard : (d : Data) (ms : json.Members) (k : List ℕ) → claims_in d ≡ Some ms → is_standard_claim k ≡ false → get_member k ms ≡ None
configured_are_standard d ms k e h = in_table (as_table d) k ms h e

-- ---- the users of a registry

none_known : AreKnown json.no_members
none_known k d e = absurd (cc)

known_at_place : (c : Configuration) (n : ℕ) (o : Option User) → IsRegistry c → user_at c n ≡ o → AreKnown (claims_of o)
known_at_place c n None r is = none_known
known_at_place c n (Some u) r is = let h : HoldsClaims u.claims = user_holds c n u r is in subst AreKnown (sym (text_is u.claims h)) h.known

pub user_has_kinds : (c : Configuration) (n : ℕ) (k : List ℕ) (d : json.Data) → IsRegistry c → get_member k (user_claims c n) ≡ Some d → has_kind (kind_of k) d ≡ true
unfolding user_claims
user_has_kinds c n k d r e = known_at_place c n (user_at c n) r refl k d e

kind_there : (o : Option ClaimKind) (d : json.Data) → has_kind o d ≡ true → is_some o ≡ true
kind_there None d h = absurd (true≢false (sym h))
kind_there (Some kind) d h = refl

no_other : (k : List ℕ) (o : Option json.Data) → is_standard_claim k ≡ false → ((d : json.Data) → o ≡ Some d → has_kind (kind_of k) d ≡ true) → o ≡ None
no_other k None h kinds = refl
no_other k (Some d) h kinds = absurd (true≢false (sym (sym (kind_is_standard k) ∙ kind_there (kind_of k) d (kinds d refl)) ∙ h))

pub user_has_no_others : (c : Configuration) (n : ℕ) (k : List ℕ) → IsRegistry c → is_standard_claim k ≡ false → get_member k (user_claims c n) ≡ None
user_has_no_others c n k r h = no_other k (get_member k (user_claims c n)) h (λ d e. user_has_kinds c n k d r e)
