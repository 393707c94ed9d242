-- A condition of honest logins is needed: without it there is a login that keeps all others, over a registry that was read, in a legal
-- world whose words are distinct and in which time goes on, and it does not go well.
use Rattle.std.specs.Prelude.{List, ◌∷◌, Some}
use Rattle.client_registry.specs.Configuration.{Configuration}
use Rattle.client_registry.specs.Registered.{IsRegistry}
use Rattle.sso_places.specs.Legal.{IsLegalWorld}
use Rattle.sso_places.specs.Premises.{HasDistinctWords, IsInOrder}
use Rattle.sso_places.specs.Site.{own_site}
use Rattle.sso_places.specs.World.{Place, World}
use Rattle.honest_places.specs.Conditions.{Condition}
use Rattle.honest_places.specs.Login.{Visitor, MayLogInBut, IsHonestBut}
use Rattle.honest_places.specs.Outcome.{GoesWell}

pub record FailsWithout (condition : Condition) : Type 0 where
  pub configuration : Configuration
  pub visitor : Visitor
  pub world : World
  pub last : Place
  pub earlier : List Place
  pub registry : IsRegistry configuration
  pub legal : IsLegalWorld (own_site configuration) world
  pub distinct : HasDistinctWords world
  pub order : IsInOrder world
  pub may : MayLogInBut (Some condition) configuration visitor
  pub honest : IsHonestBut (Some condition) configuration visitor world (last ∷ earlier)
  pub fails : GoesWell configuration visitor last earlier → ⊥
