-- The index agrees with the world, except that the newest place may be indexed not at all or in part.
use Rattle.std.specs.Prelude.{◌≡◌, ℕ, suc, Bool, false, ◌||◌, List, [], ◌∷◌, length, Option, Some, None}
use Rattle.std.specs.List.{list_any}
use Rattle.std.specs.Option.{option_or}
use Rattle.sso_base.specs.Words.{Word, Text}
use Rattle.client_registry.specs.Configuration.{Configuration}
use Rattle.sso_places.specs.World.{World}
use Rattle.sso_places.specs.Premises.{issued_at, sets_elsewhere, set_elsewhere, is_written}
use Rattle.sso_places.specs.Site.{own_site}
use Rattle.sso_places.specs.Tokens.{TokenText, is_token}
use Rattle.sso_places.specs.Written.{written_at}
use Rattle.world_index.specs.Setting.{set_for_other}
use Rattle.world_index.specs.Writing.{is_written_for}
use Rattle.world_index.specs.Issuing.{issued_of}
use Rattle.world_index.specs.declared.halves.Issued.{Issued}
use Rattle.running_world.specs.declared.foreknown.Foreknown.{Foreknown}
use Rattle.running_world.specs.declared.kept.Kept.{Kept}
use Rattle.running_world.specs.declared.noting.Index.{Index}
use Rattle.running_world.specs.Foreknowing.{IsForeknownIf}
use Rattle.running_world.specs.Noting.{issued_here}
use Rattle.running_world.specs.Running.{places_of}

-- the first word of a world with this half hash
abbrev pub first_issued : Text → World → Option Issued
first_issued half [] = None
first_issued half (x ∷ world) = option_or (first_issued half world) (issued_here half (suc (length world)) (issued_at x))

-- ---- the newest place, if it may not be indexed

abbrev pub newest_sets : Option Foreknown → World → ℕ → Word → Bool
newest_sets (Some fore) (x ∷ world) from w = sets_elsewhere from w x
newest_sets behind world from w = false

abbrev pub newest_writes : Configuration → Option Foreknown → World → List TokenText
newest_writes c (Some fore) (x ∷ world) = written_at (own_site c) world x
newest_writes c behind world = []

abbrev pub newest_issues : Text → Option Foreknown → World → Option Issued
newest_issues half (Some fore) (x ∷ world) = issued_here half (suc (length world)) (issued_at x)
newest_issues half behind world = None

-- with the newest place, the index has the cookies set, the tokens written and the words issued in the world
pub record IsIndexed (c : Configuration) (index : Index) (behind : Option Foreknown) (world : World) : Type 0 where
  pub set : (w : Word) (from : ℕ) → (newest_sets behind world from w || set_for_other index.setters w from) ≡ set_elsewhere world from w
  pub wrote : (t : Text) (client : ℕ)
      → (list_any (is_token (client, t)) (newest_writes c behind world) || is_written_for index.written t client)
      ≡ is_written (own_site c) world (client, t)
  pub issued : (half : Text) → option_or (issued_of index.halves half) (newest_issues half behind world) ≡ first_issued half world

-- what is known of the newest place, if it is not indexed
abbrev pub IsBehind : Configuration → Option Foreknown → List Kept → Type 0
IsBehind c None kept = Unit {0}
IsBehind c (Some fore) [] = Unit {0}
IsBehind c (Some fore) (k ∷ kept) = IsForeknownIf c (places_of c kept) k.asked fore
