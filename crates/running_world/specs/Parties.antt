-- The relying parties of a registry, with empty histories.
use Rattle.std.specs.Prelude.{◌≡◌, ℕ, List, [], length, Some, slice_get}
use Rattle.client_registry.specs.Configuration.{Configuration}
use Rattle.rp_accept.specs.Serving.{setup_of}
use Rattle.rp_core.specs.Relying.{Relying}

pub record IsNewParty (c : Configuration) (n : ℕ) (role : Relying) : Type 0 where
  pub setup : role.setup ≡ setup_of c n c.provider
  pub history : role.history ≡ []

-- one for each party of the registry, in its order
pub record AreNewParties (c : Configuration) (roles : List Relying) : Type 0 where
  pub count : length roles ≡ length c.parties
  pub each : (n : ℕ) (role : Relying) → slice_get roles n ≡ Some role → IsNewParty c n role
