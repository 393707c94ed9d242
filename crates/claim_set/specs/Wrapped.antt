-- Errors of claims in the errors of crates above.
use Rattle.claim_set.specs.declared.no.ClaimNo.{ClaimNo}
use Rattle.claim_set.specs.declared.no.ClaimNo.TheVariants.{NoMemory}

-- an error of claims, as an error of a crate above, which has a `NoMemory` of its own
abbrev pub as_claims : {N : Type 0} → N → (ClaimNo → N) → ClaimNo → N
as_claims memory wrap NoMemory = memory
as_claims memory wrap e = wrap e
