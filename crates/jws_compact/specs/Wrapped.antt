-- Errors of sealed texts in the errors of crates above.
use Rattle.jws_compact.specs.declared.no.JwsNo.{JwsNo}
use Rattle.jws_compact.specs.declared.no.JwsNo.TheVariants.{NoMemory}

-- an error of a sealed text, as an error of a crate above, which has a `NoMemory` of its own
abbrev pub as_jws : {N : Type 0} → N → (JwsNo → N) → JwsNo → N
as_jws memory wrap NoMemory = memory
as_jws memory wrap e = wrap e
