-- The first failed premise, of the three that are tested at each place. At one place, a forged token comes before a leaked
-- cookie, and a leaked cookie before a half-hash clash.
use Rattle.std.specs.Prelude.{◌≡◌, ◌<◌, ℕ, suc, Bool, true, false, ◌&&◌, not, [], ◌∷◌, ◌++◌, length, Option, Some, None, if◌then◌else◌}
use Rattle.std.specs.List.{list_any}
use Rattle.std.specs.Str.{bytes_eq}
use Rattle.std.specs.Option.{option_or}
use Rattle.sso_base.specs.Words.{Word}
use Rattle.sso_places.specs.declared.types.Broken.{Broken}
use Rattle.sso_places.specs.declared.types.Broken.TheVariants.{Forged, Leaked, HashClash}
use Rattle.sso_places.specs.Site.{Site}
use Rattle.sso_places.specs.World.{Place, World, place_at}
use Rattle.sso_places.specs.Premises.{forges, leaks, issued_at, half_digest, IsUnforged, IsUnleaked, HasDistinctHashes}

-- ---- half hashes that clash

-- two different words have the same half hash
abbrev pub do_clash : Word → Word → Bool
do_clash v w = not (bytes_eq v w) && bytes_eq (half_digest v) (half_digest w)

-- the places issue two such words; one place may issue both
abbrev pub clashes : Place → Place → Bool
clashes x y = list_any (λ v. list_any (do_clash v) (issued_at y)) (issued_at x)

-- the earliest place of a world that clashes with a place
abbrev pub first_clash : Place → World → Option ℕ
first_clash x [] = None
first_clash x (y ∷ world) = option_or (first_clash x world) (if clashes x y then Some (suc (length world)) else None)

-- ---- the first failure

abbrev pub clash_at : ℕ → Option ℕ → Option Broken
clash_at number None = None
clash_at number (Some first) = Some (HashClash first number)

-- the result for a place with this number that has a request: forged before leaked
abbrev pub verdict : ℕ → Bool → Bool → Option Broken
verdict number forged leaked = if forged then Some (Forged number) else if leaked then Some (Leaked number) else None

abbrev pub broken_at : Site → World → Place → Option Broken
broken_at s world x =
    option_or (verdict (suc (length world)) (forges s world x) (leaks world x)) (clash_at (suc (length world)) (first_clash x (x ∷ world)))

abbrev pub first_broken : Site → World → Option Broken
first_broken s [] = None
first_broken s (x ∷ world) = option_or (first_broken s world) (broken_at s world x)

-- ---- its meaning

-- no premise fails
pub record IsUnbroken (s : Site) (world : World) : Type 0 where
  pub unforged : IsUnforged s world
  pub unleaked : IsUnleaked world
  pub hashes : HasDistinctHashes world

-- the place has this number, and no premise fails at the places before it
pub record IsFirst (s : Site) (world : World) (number : ℕ) (place : Place) (earlier : World) : Type 0 where
  pub later : World
  pub parts : world ≡ later ++ place ∷ earlier
  pub number_is : number ≡ suc (length earlier)
  pub unbroken : IsUnbroken s earlier

pub record IsFirstForged (s : Site) (world : World) (number : ℕ) : Type 0 where
  pub place : Place
  pub earlier : World
  pub first : IsFirst s world number place earlier
  pub forged : forges s earlier place ≡ true

pub record IsFirstLeaked (s : Site) (world : World) (number : ℕ) : Type 0 where
  pub place : Place
  pub earlier : World
  pub first : IsFirst s world number place earlier
  pub unforged : forges s earlier place ≡ false
  pub leaked : leaks earlier place ≡ true

-- the other place is the earliest that clashes with this one; it may be this one itself
pub record IsFirstClash (s : Site) (world : World) (other number : ℕ) : Type 0 where
  pub place : Place
  pub earlier : World
  pub first : IsFirst s world number place earlier
  pub unforged : forges s earlier place ≡ false
  pub unleaked : leaks earlier place ≡ false
  pub beside : Place
  pub beside_is : place_at (place ∷ earlier) other ≡ Some beside
  pub clash : clashes place beside ≡ true
  pub least : (k : ℕ) (y : Place) → k < other → place_at (place ∷ earlier) k ≡ Some y → clashes place y ≡ false
