-- The theorems about a running world over a registry: it is legal, and under the premises its reading is a run of the sign-on
-- machine. If moreover no two half hashes are the same, codes and access tokens are bound. If words are distinct and time goes
-- on, honest logins succeed.
use Rattle.client_registry.specs.Configuration.{Configuration}
use Rattle.sso_places.specs.Agreement.{SignsOn}
use Rattle.sso_places.specs.Binding.{IsBound}
use Rattle.sso_places.specs.Legal.{IsLegalWorld}
use Rattle.sso_places.specs.Premises.{HasDistinctWords, HasDistinctHashes, IsUnleaked, IsUnforged, IsJoined, IsInOrder}
use Rattle.sso_places.specs.Site.{own_site}
use Rattle.sso_places.specs.World.{World}
use Rattle.honest_places.specs.Outcome.{HonestLoginsSucceed}

pub record TheoremHolds (c : Configuration) (world : World) : Type 0 where
  pub legal : IsLegalWorld (own_site c) world
  pub signs : HasDistinctWords world → IsUnleaked world → IsUnforged (own_site c) world → IsJoined world → SignsOn (own_site c) world
  pub binds : HasDistinctWords world → IsUnleaked world → IsUnforged (own_site c) world → IsJoined world → HasDistinctHashes world → IsBound (own_site c) world
  pub succeeds : HasDistinctWords world → IsInOrder world → HonestLoginsSucceed c world
