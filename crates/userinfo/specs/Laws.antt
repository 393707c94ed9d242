-- Laws about claims, requests and responses. Each is a clause of a function of `law.rt`, which says it in words.
use Rattle.std.specs.Prelude.{◌≡◌, ◌≢◌, ◌≤◌, ℕ, List, length, true, false, codes, Some, None, Ok, Err}
use Rattle.serde_json.specs.Data.{Data, string, Members}
use Rattle.serde_json.specs.Find.{get_member, as_str}
use Rattle.sso_base.specs.Words.{Word}
use Rattle.sso_base.specs.declared.message.Answered.{Answered}
use Rattle.claim_set.specs.declared.no.ClaimNo.TheVariants.{WrongKind}
use Rattle.claim_set.specs.Fitting.{ClaimsFit}
use Rattle.claim_set.specs.Reading.{claims_text, Reads}
use Rattle.toml.specs.Data as toml
use Rattle.configuration_rows.specs.Claims.{claims_in}
use Rattle.client_registry.specs.Configuration.{Configuration, subject_at}
use Rattle.client_registry.specs.ClaimKinds.{has_kind}
use Rattle.client_registry.specs.Registered.{IsRegistry}
use Rattle.oidc_words.specs.declared.scopes.Scopes.{Scopes}
use Rattle.oidc_words.specs.Claims.{is_standard_claim, kind_of}
use Rattle.userinfo.specs.declared.header.Bearer.TheVariants.{Unreadable}
use Rattle.userinfo.specs.declared.no.InfoNo.TheVariants as no
use Rattle.userinfo.specs.Held.{is_wanted, user_claims, held_members, info_members}
use Rattle.request_params.specs.Scheme.{is_bearer, IsScheme}
use Rattle.userinfo.specs.Header.{bearer_read, IsBearer}
use Rattle.userinfo.specs.Answer.{info_read}

-- ---- claims of a user

abbrev pub WantedClaimsAreHeld : Type 0
WantedClaimsAreHeld =
    (c : Configuration) (n : ℕ) (s : Scopes) (asked : List (List ℕ)) (k : List ℕ) → is_wanted s asked k ≡ true
    → get_member k (held_members c n s asked) ≡ get_member k (user_claims c n)

abbrev pub UnwantedClaimsAreAbsent : Type 0
UnwantedClaimsAreAbsent =
    (c : Configuration) (n : ℕ) (s : Scopes) (asked : List (List ℕ)) (k : List ℕ) → is_wanted s asked k ≡ false
    → get_member k (held_members c n s asked) ≡ None

abbrev pub OtherNamesAreAbsent : Type 0
OtherNamesAreAbsent =
    (c : Configuration) (n : ℕ) (s : Scopes) (asked : List (List ℕ)) (k : List ℕ) → is_standard_claim k ≡ false
    → get_member k (held_members c n s asked) ≡ None

abbrev pub ClaimsHaveTheirKind : Type 0
ClaimsHaveTheirKind =
    (c : Configuration) (n : ℕ) (k : List ℕ) (d : Data) → IsRegistry c → get_member k (user_claims c n) ≡ Some d
    → has_kind (kind_of k) d ≡ true

abbrev pub ConfiguredClaimsAreStandard : Type 0
ConfiguredClaimsAreStandard =
    (d : toml.Data) (ms : Members) (k : List ℕ) → claims_in d ≡ Some ms → is_standard_claim k ≡ false → get_member k ms ≡ None

-- ---- UserInfo

abbrev pub UserInfoHasTheSubject : Type 0
UserInfoHasTheSubject =
    (c : Configuration) (client n : ℕ) (s : Scopes) (asked : List (List ℕ))
    → get_member (codes "sub") (info_members c client n s asked) ≡ Some (string (subject_at c client n))

abbrev pub UserInfoHasWantedClaims : Type 0
UserInfoHasWantedClaims =
    (c : Configuration) (client n : ℕ) (s : Scopes) (asked : List (List ℕ)) (k : List ℕ) → k ≢ codes "sub"
    → is_wanted s asked k ≡ true → get_member k (info_members c client n s asked) ≡ get_member k (user_claims c n)

abbrev pub UserInfoHasNoOtherClaims : Type 0
UserInfoHasNoOtherClaims =
    (c : Configuration) (client n : ℕ) (s : Scopes) (asked : List (List ℕ)) (k : List ℕ) → k ≢ codes "sub"
    → is_wanted s asked k ≡ false → get_member k (info_members c client n s asked) ≡ None

-- ---- lengths

abbrev pub UserInfoFits : Type 0
UserInfoFits =
    (c : Configuration) (client n : ℕ) (s : Scopes) (asked : List (List ℕ)) → IsRegistry c
    → ClaimsFit (info_members c client n s asked)

abbrev pub HeldClaimsAreShort : Type 0
HeldClaimsAreShort =
    (c : Configuration) (n : ℕ) (s : Scopes) (asked : List (List ℕ)) → IsRegistry c
    → length (claims_text (held_members c n s asked)) ≤ 2048

abbrev pub UserInfoIsShort : Type 0
UserInfoIsShort =
    (c : Configuration) (client n : ℕ) (s : Scopes) (asked : List (List ℕ)) → IsRegistry c
    → length (claims_text (info_members c client n s asked)) ≤ 3587

-- ---- headers

abbrev pub OtherBearersAreUnreadable : Type 0
OtherBearersAreUnreadable =
    (s h : List ℕ) → IsScheme s h → is_bearer s ≡ true → ((w : Word) → ¬ IsBearer h w) → bearer_read (Some h) ≡ Unreadable

-- ---- responses

abbrev pub SubjectsOfAnotherKindAreRefused : Type 0
SubjectsOfAnotherKindAreRefused =
    (a : Answered) (ms : Members) (d : Data) → a.status ≡ 200 → Reads a.body ms → get_member (codes "sub") ms ≡ Some d
    → as_str d ≡ None → info_read a ≡ Err (no.Claims (WrongKind (codes "sub")))

abbrev pub ResponsesWithoutSubjectAreRefused : Type 0
ResponsesWithoutSubjectAreRefused =
    (a : Answered) (ms : Members) → a.status ≡ 200 → Reads a.body ms → get_member (codes "sub") ms ≡ None
    → info_read a ≡ Err no.NoSub

abbrev pub WrittenClaimsNameTheSubject : Type 0
WrittenClaimsNameTheSubject =
    (c : Configuration) (client n : ℕ) (s : Scopes) (asked : List (List ℕ)) → IsRegistry c
    → info_read (record { status = 200; body = claims_text (info_members c client n s asked) }) ≡ Ok (subject_at c client n)
