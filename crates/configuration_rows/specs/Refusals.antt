-- Errors of a configuration in an order: the first with the smallest number is reported.
use Rattle.std.specs.Prelude.{◌≡◌, ◌<◌, ◌≤◌, ℕ, ◌+◌, Bool, List, [], ◌∷◌, ◌++◌, nat_lt, Option, Some, None, if◌then◌else◌}
use Rattle.std.specs.List.{AllByRecursion}
use Rattle.configuration_rows.specs.declared.no.RegNo.{RegNo}
use Rattle.configuration_rows.specs.declared.no.RegNo.TheVariants.{NoMemory, TooLong, NotToml, Version, Missing, WrongKind, BadUrl, Twice, ShortSecret, TooMany}
use Rattle.configuration_rows.specs.declared.no.RegNo.TheVariants.{MixedHosts, UnknownClient, SubjectClash}

-- the order in which errors are reported
abbrev pub number : RegNo → ℕ
number NoMemory = 0
number TooLong = 1
number NotToml = 2
number Version = 3
number (Missing path) = 4
number (WrongKind path) = 5
number (BadUrl path) = 6
number (Twice name) = 7
number (ShortSecret client) = 8
number (TooMany kind) = 9
number (MixedHosts client) = 10
number (UnknownClient party) = 11
number (SubjectClash client user other) = 12

-- of an error and a later one, the one that is reported
abbrev pub sooner : RegNo → Option RegNo → RegNo
sooner e None = e
sooner e (Some f) = if nat_lt (number f) (number e) then f else e

-- the same for a list, and a later error
abbrev pub least_before : List RegNo → Option RegNo → Option RegNo
least_before [] later = later
least_before (e ∷ es) later = Some (sooner e (least_before es later))

-- the error that is reported: the first with the smallest number
abbrev pub least : List RegNo → Option RegNo
least es = least_before es None

-- e is the first error with the smallest number
pub record IsLeast (e : RegNo) (es : List RegNo) : Type 0 where
  pub before : List RegNo
  pub after : List RegNo
  pub there : es ≡ before ++ e ∷ after
  pub first : AllByRecursion (λ f. number e < number f) before
  pub lowest : AllByRecursion (λ f. number e ≤ number f) after

-- this error if the condition is true
abbrev pub note_if : Bool → RegNo → List RegNo
note_if b e = if b then e ∷ [] else []

-- the errors of each row, row by row, with indices from n on
abbrev pub each_from : {A : Type 0} → (ℕ → A → List RegNo) → ℕ → List A → List RegNo
each_from f n [] = []
each_from f n (x ∷ xs) = f n x ++ each_from f (n + 1) xs

abbrev pub each : {A : Type 0} → (ℕ → A → List RegNo) → List A → List RegNo
each f xs = each_from f 0 xs
