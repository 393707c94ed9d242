-- The recipients of requests.
use Rattle.std.specs.Prelude.{◌≡◌, ℕ}
use Rattle.sso_base.specs.declared.http.Ask.{Ask}
use Rattle.client_registry.specs.Configuration.{Configuration}
use Rattle.sso_places.specs.declared.types.To.{To}
use Rattle.sso_places.specs.declared.types.To.TheVariants as to
use Rattle.web_requests.specs.declared.sent.Sent.{Sent}
use Rattle.web_requests.specs.Sending.{sent}
use Rattle.sso_places.specs.Legal.{IsRole}

-- a request from this number, to a role of the registry
pub record Arrives (c : Configuration) (from : ℕ) (s : Sent) : Type 0 where
  pub request : Ask
  pub is : s ≡ sent from s.to request
  pub role : IsRole c s.to

-- a request from this number to this role, which is a party
pub record GoesBack (from : ℕ) (role : To) (s : Sent) : Type 0 where
  pub number : ℕ
  pub party : role ≡ to.Party number
  pub sender : s.from ≡ from
  pub receiver : s.to ≡ role
