-- Laws about request objects. Each is a clause of a function of `law.rt`, which says it in words.
use Rattle.std.specs.Prelude.{◌≡◌, ℕ, List, Ok, Err, IsOk}
use Rattle.serde_json.specs.Data.{Members}
use Rattle.sso_base.specs.Refusals.{first_refusal}
use Rattle.claim_set.specs.declared.no.ClaimNo.{ClaimNo}
use Rattle.claim_set.specs.Reading.{Reads, claims_read}
use Rattle.client_registry.specs.declared.records.Client.{Client}
use Rattle.client_keys.specs.Opening.{SealedFor}
use Rattle.request_object.specs.declared.no.ObjNo.{ObjNo}
use Rattle.request_object.specs.declared.no.ObjNo.TheVariants as no
use Rattle.request_object.specs.Reading.{request_read}
use Rattle.request_object.specs.Object.{request_refusals}

-- ---- refusals

abbrev pub UnreadableClaimsAreRefused : Type 0
UnreadableClaimsAreRefused =
    (client : Client) (issuer h p t : List ℕ) (e : ClaimNo) → SealedFor client h p t → claims_read p ≡ Err e
    → request_read client issuer t ≡ Err (no.Claims e)

abbrev pub RefusedObjectsHaveTheFirstReason : Type 0
RefusedObjectsHaveTheFirstReason =
    (client : Client) (issuer h p t : List ℕ) (ms : Members) (e : ObjNo) → SealedFor client h p t → Reads p ms
    → first_refusal (request_refusals client issuer ms) ≡ Err e → request_read client issuer t ≡ Err e

abbrev pub ObjectsWithoutReasonAreAccepted : Type 0
ObjectsWithoutReasonAreAccepted =
    (client : Client) (issuer h p t : List ℕ) (ms : Members) → SealedFor client h p t → Reads p ms
    → first_refusal (request_refusals client issuer ms) ≡ Ok tt → IsOk (request_read client issuer t)
