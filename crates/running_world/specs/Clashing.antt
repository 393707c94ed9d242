-- Half hashes that clash with that of an issued code or access token, by the first word of each half hash.
use Rattle.std.specs.Prelude.{ℕ, Bool, true, false, nat_lt, List, Option, Some, None, if◌then◌else◌}
use Rattle.sso_base.specs.Words.{Word, Text}
use Rattle.sso_places.specs.declared.types.Broken.{Broken}
use Rattle.sso_places.specs.declared.types.Broken.TheVariants.{HashClash}
use Rattle.sso_places.specs.FirstBroken.{do_clash}
use Rattle.sso_places.specs.Premises.{half_digest}
use Rattle.world_index.specs.Issuing.{issued_of, other_place}
use Rattle.world_index.specs.declared.halves.Issued.{Issued}

-- the earlier of two places
abbrev pub earlier_of : Option ℕ → Option ℕ → Option ℕ
earlier_of None second = second
earlier_of (Some first) None = Some first
earlier_of (Some first) (Some second) = Some (if nat_lt second first then second else first)

-- the place that first issued another word with this half hash
abbrev pub clash_of : List (Text × Issued) → Option Word → Option ℕ
clash_of halves None = None
clash_of halves (Some w) = other_place w (issued_of halves (half_digest w))

-- two words clash
abbrev pub both_clash : Option Word → Option Word → Bool
both_clash (Some v) (Some w) = do_clash v w
both_clash v w = false

-- a clash with a word of another place, or else between the two
abbrev pub clash_by : ℕ → Option ℕ → Bool → Option Broken
clash_by number (Some place) clash = Some (HashClash place number)
clash_by number None true = Some (HashClash number number)
clash_by number None false = None

abbrev pub clash_found : List (Text × Issued) → ℕ → Option Word → Option Word → Option Broken
clash_found halves number code access = clash_by number (earlier_of (clash_of halves code) (clash_of halves access)) (both_clash code access)
