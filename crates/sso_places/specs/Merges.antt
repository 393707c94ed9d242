-- Worlds of servers: a merge of the histories of the provider and the relying parties that keeps the order of each. The HTTP
-- requests may be any that parse to the histories' entries, and the browser numbers are free.
use Rattle.std.specs.Prelude.{◌≡◌, ◌<◌, ℕ, List, length, reverse}
use Rattle.std.specs.List.{AllByRecursion}
use Rattle.op_answer.specs.Past.{OpPair}
use Rattle.op_answer.specs.Legal.{IsLegalOp}
use Rattle.rp_answer.specs.Past.{RpPair}
use Rattle.rp_answer.specs.Legal.{IsLegalRp}
use Rattle.sso_places.specs.Site.{Site, setup_at}
use Rattle.sso_places.specs.World.{World, op_past, rp_past}
use Rattle.sso_places.specs.Legal.{IsAsked}

-- A history has its oldest pair first, a world its newest place first.
pub record IsMerge (s : Site) (provider : List OpPair) (parties : ℕ → List RpPair) (world : World) : Type 0 where
  pub provider_is : op_past world ≡ reverse provider
  pub parties_are : (n : ℕ) → n < length s.configuration.parties → rp_past n world ≡ reverse (parties n)
  pub asked : AllByRecursion (IsAsked s.configuration) world

-- the histories are those of cores that answered their requests in turn, whatever they weigh
pub record AreHistories (s : Site) (provider : List OpPair) (parties : ℕ → List RpPair) : Type 0 where
  pub provider_is : IsLegalOp s.configuration (reverse provider)
  pub parties_are : (n : ℕ) → n < length s.configuration.parties → IsLegalRp (setup_at s n) (reverse (parties n))
