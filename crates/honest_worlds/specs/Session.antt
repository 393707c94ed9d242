-- The session with which a world ends. The sign-on machine holds it, and no other, and it is the one session that the party's history
-- calls live.
use Rattle.std.specs.Prelude.{◌≡◌, [], ◌∷◌, length}
use Rattle.sso_base.specs.Legal.{last_moment}
use Rattle.sso_model.specs.Founded.{IsFounded}
use Rattle.sso_model.specs.Rows.{Live}
use Rattle.rp_login.specs.declared.rows.SessionRow.{SessionRow}
use Rattle.rp_answer.specs.Visits.{live_visits}
use Rattle.sso_places.specs.Agreement.{IsSameSession}
use Rattle.sso_places.specs.Reading.{machine_of}
use Rattle.sso_places.specs.Site.{Site, client_of_party, types_at}
use Rattle.sso_places.specs.World.{World, rp_past}
use Rattle.honest_places.specs.Login.{Visitor}

-- It began at the last place, in the visitor's browser and at his party, and it is his. It is founded: this browser began that login,
-- and the provider answered the login's nonce for him, to a browser that had signed in as him by password.
pub record HoldsSession (s : Site) (v : Visitor) (world : World) : Type 0 where
  pub session : Live
  pub held : (machine_of s world).live ≡ session ∷ []
  pub founded : IsFounded (machine_of s world) session
  pub began : session.event ≡ length world
  pub browser : session.browser ≡ v.browser
  pub client : session.client ≡ client_of_party s v.party
  pub user : session.user ≡ v.user
  pub row : SessionRow
  pub live : live_visits (types_at s v.party) (rp_past v.party world) (last_moment (rp_past v.party world)) ≡ row ∷ []
  pub same : IsSameSession s world v.party session row
