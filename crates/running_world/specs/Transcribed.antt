-- The places of a world as a value: the registry, what was kept at each place, and the changes of the jars, each list the
-- newest first. It also records for which place there is room.
use Rattle.std.specs.Prelude.{◌≡◌, ◌<◌, ℕ, Bool, true, false, List, length, Option, None, IfSome}
use Rattle.std.specs.List.{AllByRecursion}
use Rattle.sso_base.specs.declared.http.Ask.{Ask}
use Rattle.client_registry.specs.Configuration.{Configuration}
use Rattle.client_registry.specs.Registered.{IsRegistry}
use Rattle.sso_places.specs.declared.types.Broken.{Broken}
use Rattle.sso_places.specs.FirstBroken.{first_broken}
use Rattle.sso_places.specs.Site.{own_site}
use Rattle.sso_places.specs.declared.types.WorldAsk.TheVariants.{Http}
use Rattle.sso_places.specs.declared.types.To.TheVariants as to
use Rattle.running_world.specs.declared.foreknown.Foreknown.{Foreknown}
use Rattle.cookie_jars.specs.declared.jar_note.JarNote.{JarNote}
use Rattle.cookie_jars.specs.declared.jar_note.Slot.{Slot}
use Rattle.running_world.specs.declared.kept.Kept.{Kept}
use Rattle.running_world.specs.declared.noting.Index.{Index}
use Rattle.running_world.specs.Foreknowing.{IsKnown}
use Rattle.running_world.specs.Indexed.{IsIndexed, IsBehind}
use Rattle.cookie_jars.specs.JarsFound.{Jarred}
use Rattle.running_world.specs.Running.{places_of}
use Rattle.running_world.specs.Whole.{IsWhole, IsOfRole}
use Rattle.running_world.specs.Breaking.{judged_asked}

pub record Transcribed : Type 0 where
  pub registry : Configuration
  pub kept : List Kept
  pub jars : List JarNote
  pub ready : Option Slot

-- the premise that a request to the provider fails
abbrev pub judged_at_provider : Transcribed → ℕ → Ask → Option Broken
judged_at_provider t from request = judged_asked t.registry (places_of t.registry t.kept) from to.Provider (Http request)

abbrev pub ready_if : Bool → Option Slot → Option Slot
ready_if true slot = slot
ready_if false slot = None

-- there is room for one more place, and the newest is indexed
abbrev pub IsSettled : Bool → ℕ → ℕ → Option Foreknown → Type 0
IsSettled true count capacity behind = (count < capacity) × (behind ≡ None)
IsSettled false count capacity behind = Unit {0}

-- the kept places are whole; the index and the first failed premise agree with the world
pub record IsTranscript
    (c : Configuration) (kept : List Kept) (capacity : ℕ) (jars : Jarred) (index : Index) (behind : Option Foreknown)
    (broken : Option Broken) (settled : Bool) : Type 0 where
  pub registry : IsRegistry c
  pub whole : AllByRecursion IsWhole kept
  pub roles : AllByRecursion (IsOfRole c) kept
  pub parties : jars.parties ≡ length c.parties
  pub clients : length index.written ≡ length c.clients
  pub known : IfSome behind (IsKnown c)
  pub newest : IsBehind c behind kept
  pub indexed : IsIndexed c index behind (places_of c kept)
  pub broken_is : broken ≡ first_broken (own_site c) (places_of c kept)
  pub room : IsSettled settled (length kept) capacity behind
