-- Laws about discovery documents. Each is a clause of a function of `law.rt`, which says it in words.
use Rattle.std.specs.Prelude.{◌≡◌, ◌++◌, ℕ, List, Ok, Err}
use Rattle.serde_json.specs.Data.{Members}
use Rattle.sso_base.specs.Refusals.{first_refusal}
use Rattle.claim_set.specs.Reading.{Reads}
use Rattle.discovery_doc.specs.declared.no.DiscNo.{DiscNo}
use Rattle.discovery_doc.specs.Reading.{absences, faults, provider_in, discovery_read}

-- ---- refusals

abbrev pub RefusedDocumentsHaveTheFirstReason : Type 0
RefusedDocumentsHaveTheFirstReason =
    (issuer b : List ℕ) (ms : Members) (e : DiscNo) → Reads b ms → first_refusal (absences ms ++ faults issuer ms) ≡ Err e
    → discovery_read issuer b ≡ Err e

abbrev pub DocumentsWithoutReasonAreAccepted : Type 0
DocumentsWithoutReasonAreAccepted =
    (issuer b : List ℕ) (ms : Members) → Reads b ms → first_refusal (absences ms ++ faults issuer ms) ≡ Ok tt
    → discovery_read issuer b ≡ Ok (provider_in ms)
