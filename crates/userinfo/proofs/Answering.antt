-- An answer is read if and only if it is a UserInfo response, and others are refused for the first reason.
use Rattle.std.proofs.Common.{◌≡◌, ◌≢◌, ℕ, List, Option, Some, None, Result, Ok, Err, codes, refl, ap, ◌∙◌}
use Rattle.serde_json.specs.Data.{string, Members}
use Rattle.serde_json.specs.Find.{get_member}
use Rattle.sso_base.specs.declared.message.Answered.{Answered}
use Rattle.sso_base.specs.Refusals.{and_then_as}
use Rattle.sso_base.proofs.Statuses.{status_judged, status_refused, status_accepted}
use Rattle.claim_set.specs.declared.no.ClaimNo.{ClaimNo}
use Rattle.claim_set.specs.Kinds.{text_claim}
use Rattle.claim_set.specs.Reading.{claims_read, Reads}
use Rattle.claim_set.proofs.Parsing.{read_reads, reads_read}
use Rattle.claim_set.proofs.KindLaws.{text_there}
use Rattle.userinfo.specs.declared.no.InfoNo.{InfoNo}
use Rattle.userinfo.specs.declared.no.InfoNo.TheVariants as no
use Rattle.userinfo.specs.Answer.{if_there, sub_in, info_read, IsUserInfo}

abbrev sub_ok : List ℕ → Result (List ℕ) InfoNo
sub_ok t = Ok t

-- ---- the status

pub claims_judged : (a : Answered) → a.status ≡ 200 → info_read a ≡ and_then_as no.Claims (claims_read a.body) sub_in
unfolding info_read
claims_judged a h = status_judged (no.Status a.status) a.status (and_then_as no.Claims (claims_read a.body) sub_in) h

pub other_status : (a : Answered) → a.status ≢ 200 → info_read a ≡ Err (no.Status a.status)
unfolding info_read
other_status a h = status_refused (no.Status a.status) a.status (and_then_as no.Claims (claims_read a.body) sub_in) h

accepted : (a : Answered) (t : List ℕ) → info_read a ≡ sub_ok t → (a.status ≡ 200) × (and_then_as no.Claims (claims_read a.body) sub_in ≡ sub_ok t)
unfolding info_read
accepted a t h = status_accepted (no.Status a.status) a.status (and_then_as no.Claims (claims_read a.body) sub_in) t h

-- ---- the claims

sub_at : (ms : Members) (t : List ℕ) (r : Result (Option (List ℕ)) ClaimNo) → text_claim (codes "sub") ms ≡ r → if_there r ≡ sub_ok t → get_member (codes "sub") ms ≡ Some (string t)
sub_at ms t (Ok None) is h = absurd (cc)
sub_at ms t (Ok (Some s)) is h = let same : s ≡ t = cc in text_there ms (codes "sub") (Some s) is ∙ ap (λ x. Some (string x)) same
sub_at ms t (Err e) is h = absurd (cc)

info_at : (a : Answered) (t : List ℕ) (r : Result Members ClaimNo) → a.status ≡ 200 → claims_read a.body ≡ r → and_then_as no.Claims r sub_in ≡ sub_ok t → IsUserInfo a t
info_at a t (Ok ms) ok is h = record { status = ok; claims = ms; reads = read_reads a.body ms is; names = sub_at ms t (text_claim (codes "sub") ms) refl h }
info_at a t (Err e) ok is h = absurd (cc)

pub read_is_info : (a : Answered) (t : List ℕ) → info_read a ≡ sub_ok t → IsUserInfo a t
read_is_info a t h = let parts = accepted a t h in info_at a t (claims_read a.body) parts.0 refl parts.1

pub members_judged : (a : Answered) (ms : Members) → a.status ≡ 200 → Reads a.body ms → info_read a ≡ sub_in ms
members_judged a ms h r = claims_judged a h ∙ ap (λ (r : Result Members ClaimNo). and_then_as no.Claims r sub_in) (reads_read a.body ms r)

sub_read : (ms : Members) (t : List ℕ) → get_member (codes "sub") ms ≡ Some (string t) → sub_in ms ≡ sub_ok t
sub_read ms t h = rw h refl

pub info_is_read : (a : Answered) (t : List ℕ) → IsUserInfo a t → info_read a ≡ sub_ok t
info_is_read a t i = members_judged a i.claims i.status i.reads ∙ sub_read i.claims t i.names
