-- What is reported of the errors of a configuration.
use Rattle.std.proofs.Common.{◌≡◌, List, [], Option, Some, Result, Err, ap}
use Rattle.configuration_rows.specs.declared.no.RegNo.{RegNo}
use Rattle.configuration_rows.specs.Refusals.{least}
use Rattle.client_registry.specs.Reading.{unless_refused}

pub returned : {R : Type 0} (es : List RegNo) (r : Result R RegNo) → es ≡ [] → unless_refused (least es) r ≡ r
returned {R} es r none =
    let U : List RegNo → Result R RegNo = λ l. unless_refused (least l) r in
    ap U none

pub refused : {R : Type 0} (es : List RegNo) (r : Result R RegNo) (e : RegNo) → least es ≡ Some e → unless_refused (least es) r ≡ Err e
refused {R} es r e is =
    let U : Option RegNo → Result R RegNo = λ o. unless_refused o r in
    ap U is
