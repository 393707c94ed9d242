-- Reading heads and bodies from a source.
use Rattle.std.specs.Prelude.{◌≡◌, ℕ, ◌<◌, ◌≤◌, List, [], ◌∷◌, length, Option, Some, None}
use Rattle.sso_base.specs.Faults.{Rose}
use Rattle.server_desk.specs.Sources.{Gives, IsSpent}
use Rattle.sso_http.specs.Lines.{IsHead, HasNoHead}
use Rattle.sso_http.specs.declared.no.HttpNo.{HttpNo}
use Rattle.sso_http.specs.declared.no.HttpNo.TheVariants.{NoMemory, ReadFault, EndedEarly, HeadTooLong}

-- one byte was given, or none is left
abbrev pub GivesByte : Option (List ℕ) → Option (List ℕ) → Option ℕ → Type 0
GivesByte old new (Some byte) = Gives old new (byte ∷ [])
GivesByte old new None = (new ≡ old) × IsSpent old

-- the most bytes of a head (our own bound)
abbrev pub most_head : ℕ
most_head = 16384

-- why no more than these bytes of a head was read
abbrev pub NoHeadYet : List ℕ → Option (List ℕ) → HttpNo → Type 0
NoHeadYet bytes left NoMemory = Unit {0}
NoHeadYet bytes left ReadFault = Unit {0}
NoHeadYet bytes left EndedEarly = (length bytes < most_head) × HasNoHead bytes × IsSpent left
NoHeadYet bytes left HeadTooLong = (length bytes ≡ most_head) × HasNoHead bytes
NoHeadYet bytes left e = ⊥

-- why no more than these bytes of a body of `count` bytes was read
abbrev pub NoBodyYet : ℕ → List ℕ → Option (List ℕ) → HttpNo → Type 0
NoBodyYet count bytes left NoMemory = Unit {0}
NoBodyYet count bytes left ReadFault = Unit {0}
NoBodyYet count bytes left EndedEarly = (length bytes < count) × IsSpent left
NoBodyYet count bytes left e = ⊥

-- a head was read, and no byte after it
pub record IsHeadRead (old new : Option (List ℕ)) (head : List ℕ) : Type 0 where
  pub given : Gives old new head
  pub head_is : IsHead head
  pub within : length head ≤ most_head

-- bytes were read, but no head
pub record IsNoHeadRead (old new : Option (List ℕ)) (e : HttpNo) : Type 0 where
  pub bytes : List ℕ
  pub given : Gives old new bytes
  pub cause : NoHeadYet bytes new e

-- a body was read, and no byte after it
pub record IsBodyRead (count : ℕ) (old new : Option (List ℕ)) (body : List ℕ) : Type 0 where
  pub given : Gives old new body
  pub whole : length body ≡ count

-- bytes were read, but not that body
pub record IsNoBodyRead (count : ℕ) (old new : Option (List ℕ)) (e : HttpNo) : Type 0 where
  pub bytes : List ℕ
  pub given : Gives old new bytes
  pub cause : NoBodyYet count bytes new e

-- a `ReadFault` is returned only if the source's fault count rose
abbrev pub FaultRose : ℕ → ℕ → HttpNo → Type 0
FaultRose before now e = e ≡ ReadFault → Rose before now
