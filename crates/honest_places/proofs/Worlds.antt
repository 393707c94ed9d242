-- What is known of a world with one more place, and of whom a login is.
use Rattle.std.proofs.Common.{◌≡◌, ◌≤◌, ℕ, true, List, ◌∷◌, refl, arith}
use Rattle.std.specs.List.{list_any}
use Rattle.client_registry.specs.Configuration.{Configuration}
use Rattle.sso_places.specs.Legal.{IsLegalWorld}
use Rattle.sso_places.specs.Premises.{HasDistinctWords, IsInOrder, last_at}
use Rattle.sso_places.specs.Site.{own_site}
use Rattle.sso_places.specs.World.{Place, Provider, Party, Nothing, World}
use Rattle.honest_places.specs.Login.{Visitor}
use Rattle.honest_places.specs.Outcome.{gives_password}

-- with this last place
pub record Now (c : Configuration) (x : Place) (world : World) : Type 0 where
  pub legal : IsLegalWorld (own_site c) (x ∷ world)
  pub distinct : HasDistinctWords (x ∷ world)
  pub order : IsInOrder (x ∷ world)

pub later_at : (x : Place) (world : World) → IsInOrder (x ∷ world) → last_at world ≤ last_at (x ∷ world)
later_at (Provider from request p) world order = order.1 p.entry.at refl
later_at (Party n from request p) world order = order.1 p.entry.at refl
later_at Nothing world order = omega arith

-- the user of the login is the visitor, if a password was given
abbrev pub IsVisitor : Visitor → List Place → ℕ → Type 0
IsVisitor v login user = list_any gives_password login ≡ true → user ≡ v.user
