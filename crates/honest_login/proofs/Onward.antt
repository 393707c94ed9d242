-- The next place of an honest login is of a later kind.
use Rattle.std.proofs.Common.{List, ◌∷◌}
use Rattle.client_registry.specs.Configuration.{Configuration}
use Rattle.sso_places.specs.World.{Place, World}
use Rattle.honest_places.specs.Login.{Visitor}
use Rattle.honest_login.proofs.Thread.{Knows, is_asking, is_paged, is_consenting, is_answered, is_exchanging, is_given, is_fetching, is_told, is_in}
use Rattle.honest_login.proofs.NextPlace.{Goes}
use Rattle.honest_login.proofs.FromBrowser.{from_asking, from_paged, from_consenting, from_answered}
use Rattle.honest_login.proofs.FromServer.{from_exchanging, from_given, from_fetching, from_told, from_in}

module _ {c : Configuration} {v : Visitor} {world : World} {last : Place} {earlier : List Place} {x : Place} (g : Goes c v world last earlier x) where
  abbrev Before : Type 0
  Before = Knows c v world last earlier

  abbrev Next : Type 0
  Next = Knows c v (x ∷ world) x (last ∷ earlier)

  pub goes_on : Before → Next
  goes_on (is_asking a) = from_asking g a
  goes_on (is_paged a) = from_paged g a
  goes_on (is_consenting a) = from_consenting g a
  goes_on (is_answered a) = from_answered g a
  goes_on (is_exchanging a) = from_exchanging g a
  goes_on (is_given a) = from_given g a
  goes_on (is_fetching a) = from_fetching g a
  goes_on (is_told a) = from_told g a
  goes_on (is_in a) = from_in g a
