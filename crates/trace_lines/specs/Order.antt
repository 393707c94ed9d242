-- The invariant of every trace that was read for a registry: its lines name only what exists, and time never goes back.
use Rattle.std.specs.Prelude.{◌<◌, ◌≤◌, ℕ, List, [], ◌∷◌, length, IfSome}
use Rattle.sso_base.specs.Values.{IsWide, latest_moment}
use Rattle.client_registry.specs.Configuration.{Configuration}
use Rattle.trace_lines.specs.declared.line.Line.{Line}
use Rattle.trace_lines.specs.declared.line.Line.TheVariants.{At, Steal, Show, Begin, Follow, Mix, Forge, Login, Consent, Visit, Leave, SignOut, Carry, Back}
use Rattle.trace_lines.specs.declared.line.Line.TheVariants.{Raw}
use Rattle.sso_places.specs.Legal.{IsRole}
use Rattle.trace_lines.specs.Lines.{moment_after, places_after}
use Rattle.trace_lines.specs.LineWords.{IsVisibleWord}
use Rattle.trace_lines.specs.Trace.{Told}

-- a browser, by its number
abbrev pub IsBrowser : ℕ → Type 0
IsBrowser n = (1 ≤ n) × (n ≤ 65535)

-- a place that lines before this one have taken
abbrev pub IsTaken : List Line → ℕ → Type 0
IsTaken before place = (1 ≤ place) × (place ≤ places_after before)

-- a party of the registry, by its number
abbrev pub IsPartyOf : Configuration → ℕ → Type 0
IsPartyOf c n = n < length c.parties

-- a line may come after these
abbrev pub MayCome : Configuration → List Line → Line → Type 0
MayCome c before (At seconds) = (moment_after before ≤ seconds) × (seconds ≤ latest_moment)
MayCome c before (Steal thief owner) = IsBrowser thief × IsBrowser owner
MayCome c before (Show place) = IsTaken before place
MayCome c before (Begin from party) = IsBrowser from × IsPartyOf c party
MayCome c before (Follow from place) = IsBrowser from × IsTaken before place
MayCome c before (Mix from place name other) = IsBrowser from × IsTaken before place × IsVisibleWord name × IsTaken before other
MayCome c before (Forge from place user) = IsBrowser from × IsTaken before place × IsVisibleWord user × (length user ≤ 255)
MayCome c before (Login from place user password) =
    IsBrowser from × IsTaken before place × IsVisibleWord user × IsVisibleWord password
MayCome c before (Consent from place agree) = IsBrowser from × IsTaken before place
MayCome c before (Visit from party) = IsBrowser from × IsPartyOf c party
MayCome c before (Leave from party) = IsBrowser from × IsPartyOf c party
MayCome c before (SignOut from) = IsBrowser from
MayCome c before (Carry place message) = IsTaken before place × IsWide message
MayCome c before (Back place answer) = IsTaken before place × IsTaken before answer
MayCome c before (Raw from to method target first second auth body) =
    (from ≤ 65535) × IsRole c to × IfSome target IsVisibleWord × IfSome auth IsVisibleWord × IfSome body IsVisibleWord

-- each of these lines may come after those before it
abbrev pub AreInOrder : Configuration → List Line → Type 0
AreInOrder c [] = Unit {0}
AreInOrder c (line ∷ lines) = AreInOrder c lines × MayCome c lines line

-- the trace was read for this registry
pub record IsReadFor (c : Configuration) (told : Told) : Type 0 where
  pub order : AreInOrder c told.lines
  pub few : length told.lines ≤ 4194304
