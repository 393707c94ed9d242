-- The sessions that a logout message names (OpenID Connect Back-Channel Logout 1.0, 2.7).
use Rattle.std.specs.Prelude.{◌≡◌, true}
use Rattle.sso_model.specs.Rows.{Live, Sent}

-- the session is one of the message's client and user and, if the message says so, of its session identifier
pub record IsNamed (message : Sent) (row : Live) : Type 0 where
  pub client : row.client ≡ message.client
  pub user : row.user ≡ message.user
  pub sid : message.only ≡ true → row.sid ≡ message.sid
