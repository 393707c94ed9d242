-- The law of honest logins. It is the clause of a function of `law.rt`, which says it in words.
use Rattle.client_registry.specs.Configuration.{Configuration}
use Rattle.client_registry.specs.Registered.{IsRegistry}
use Rattle.sso_places.specs.Legal.{IsLegalWorld}
use Rattle.sso_places.specs.Premises.{HasDistinctWords, IsInOrder}
use Rattle.sso_places.specs.Site.{own_site}
use Rattle.sso_places.specs.World.{World}
use Rattle.honest_places.specs.Outcome.{HonestLoginsSucceed}

-- ---- honest logins

abbrev pub HonestLoginsAlwaysSucceed : Type 0
HonestLoginsAlwaysSucceed =
    (c : Configuration) (world : World) → IsRegistry c → IsLegalWorld (own_site c) world → HasDistinctWords world
    → IsInOrder world → HonestLoginsSucceed c world
