-- The maps that hold the jars of browsers: one for the provider, and one for each party.
use Rattle.std.specs.Prelude.{◌≡◌, ℕ, ◌<◌, true, List, length, Option, IfSome}
use Rattle.sso_places.specs.declared.types.To.{To}
use Rattle.sso_places.specs.declared.types.To.TheVariants as to
use Rattle.sso_places.specs.declared.types.Jar.{Jar}
use Rattle.cookie_jars.specs.declared.jar_note.JarNote.{JarNote}
use Rattle.cookie_jars.specs.declared.jar_note.Slot.{Slot}
use Rattle.cookie_jars.specs.JarMaps.{jar_in, has_jar, jars_at}
use Rattle.cookie_jars.specs.Jars.{jar_of}

-- the jars as a value: their changes, the newest first, the number of parties, and the change for which there is room
pub record Jarred : Type 0 where
  pub notes : List JarNote
  pub parties : ℕ
  pub ready : Option Slot

abbrev pub found : List (ℕ × Jar) → List (List (ℕ × Jar)) → ℕ → To → Jar
found provider parties browser to.Provider = jar_in provider browser
found provider parties browser (to.Party n) = jar_in (jars_at parties n) browser

-- the map of the role has a jar for the browser
abbrev pub HasSlot : List (ℕ × Jar) → List (List (ℕ × Jar)) → ℕ → To → Type 0
HasSlot provider parties browser to.Provider = has_jar provider browser ≡ true
HasSlot provider parties browser (to.Party n) = (n < length parties) × (has_jar (jars_at parties n) browser ≡ true)

-- the map of each party has one
abbrev pub HaveSlots : List (List (ℕ × Jar)) → ℕ → Type 0
HaveSlots parties browser = (n : ℕ) → n < length parties → has_jar (jars_at parties n) browser ≡ true

-- one more change, of this jar, takes no memory
pub record HasRoom (provider : List (ℕ × Jar)) (parties : List (List (ℕ × Jar))) (count capacity : ℕ) (slot : Slot) : Type 0 where
  pub note : count < capacity
  pub jar : HasSlot provider parties slot.browser slot.to

-- the maps hold the jars that the changes made
pub record AreJars (provider : List (ℕ × Jar)) (parties : List (List (ℕ × Jar))) (notes : List JarNote) (capacity : ℕ) (ready : Option Slot) : Type 0 where
  pub jars : (browser : ℕ) (at : To) → found provider parties browser at ≡ jar_of notes browser at
  pub room : IfSome ready (HasRoom provider parties (length notes) capacity)

-- a party's number is below the count
abbrev pub IsBelow : ℕ → To → Type 0
IsBelow count to.Provider = Unit {0}
IsBelow count (to.Party n) = n < count
