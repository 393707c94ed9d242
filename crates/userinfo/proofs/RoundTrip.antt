-- What is refused, and that what is written is read.
use Rattle.std.proofs.Common.{◌≡◌, ℕ, List, codes, Some, None, Result, Ok, Err, refl, ap, ◌∙◌}
use Rattle.serde_json.specs.Data.{Data, Members}
use Rattle.serde_json.specs.Find.{get_member, as_str}
use Rattle.sso_base.specs.declared.message.Answered.{Answered}
use Rattle.sso_base.specs.Refusals.{and_then_as}
use Rattle.claim_set.specs.declared.no.ClaimNo.{ClaimNo}
use Rattle.claim_set.specs.declared.no.ClaimNo.TheVariants.{WrongKind}
use Rattle.claim_set.specs.Reading.{claims_read, claims_text, Reads}
use Rattle.claim_set.proofs.Parsing.{read_reads}
use Rattle.claim_set.proofs.Written.{claims_read-claims_text}
use Rattle.client_registry.specs.Configuration.{Configuration, subject_at}
use Rattle.client_registry.specs.Registered.{IsRegistry}
use Rattle.oidc_words.specs.declared.scopes.Scopes.{Scopes}
use Rattle.userinfo.specs.declared.no.InfoNo.TheVariants as no
use Rattle.userinfo.specs.Held.{info_members}
use Rattle.userinfo.specs.Answer.{sub_in, info_read}
use Rattle.userinfo.proofs.Answering.{claims_judged, members_judged, info_is_read}
use Rattle.userinfo.proofs.Told.{subject_is_told, info_fit}

pub unread_refused : (a : Answered) (e : ClaimNo) → a.status ≡ 200 → claims_read a.body ≡ Err e → info_read a ≡ Err (no.Claims e)
unread_refused a e h is = claims_judged a h ∙ ap (λ (r : Result Members ClaimNo). and_then_as no.Claims r sub_in) is

no_sub_in : (ms : Members) → get_member (codes "sub") ms ≡ None → sub_in ms ≡ Err no.NoSub
no_sub_in ms h = rw h refl

pub no_sub_refused : (a : Answered) (ms : Members) → a.status ≡ 200 → Reads a.body ms → get_member (codes "sub") ms ≡ None → info_read a ≡ Err no.NoSub
no_sub_refused a ms h r none = members_judged a ms h r ∙ no_sub_in ms none

wrong_sub_in : (ms : Members) (d : Data) → get_member (codes "sub") ms ≡ Some d → as_str d ≡ None → sub_in ms ≡ Err (no.Claims (WrongKind (codes "sub")))
wrong_sub_in ms d h wrong = rw (h, wrong) refl

pub wrong_kind_refused : (a : Answered) (ms : Members) (d : Data) → a.status ≡ 200 → Reads a.body ms → get_member (codes "sub") ms ≡ Some d → as_str d ≡ None → info_read a ≡ Err (no.Claims (WrongKind (codes "sub")))
wrong_kind_refused a ms d h r there wrong = members_judged a ms h r ∙ wrong_sub_in ms d there wrong

abbrev answer_with : List ℕ → Answered
answer_with body = record { status = 200; body = body }

pub written_is_read : (c : Configuration) (client n : ℕ) (s : Scopes) (asked : List (List ℕ)) → IsRegistry c → info_read (answer_with (claims_text (info_members c client n s asked))) ≡ Ok (subject_at c client n)
written_is_read c client n s asked r =
    let ms : Members = info_members c client n s asked in
    info_is_read (answer_with (claims_text ms)) (subject_at c client n)
    (record {
      status = refl;
      claims = ms;
      reads = read_reads (claims_text ms) ms (claims_read-claims_text ms (info_fit c client n s asked r));
      names = subject_is_told c client n s asked;
    })
