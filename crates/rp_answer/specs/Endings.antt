-- How a session ends before its time, and which pair accepts a logout token.
use Rattle.std.specs.Prelude.{◌≡◌, ℕ, Bool, Some, Ok, ◌⊎◌}
use Rattle.logout_token.specs.declared.claims.LogoutClaims.{LogoutClaims}
use Rattle.rp_login.specs.declared.rows.SessionRow.{SessionRow}
use Rattle.rp_login.specs.Named.{IsMeant}
use Rattle.rp_exchange.specs.declared.ask.RpAsk.TheVariants as ask
use Rattle.rp_exchange.specs.declared.reply.RpReply.TheVariants as reply
use Rattle.rp_answer.specs.Past.{RpPair}

-- the pair accepts a logout token with these claims
pub record Accepts (p : RpPair) (claims : LogoutClaims) : Type 0 where
  pub asked : p.entry.ask ≡ ask.Logout (Ok claims)
  pub count : ℕ
  pub replied : p.reply ≡ reply.Ended count

-- the browser of the session leaves
pub record Leaves (p : RpPair) (visit : SessionRow) : Type 0 where
  pub asked : p.entry.ask ≡ ask.Leave (Some visit.word)
  pub ended : Bool
  pub replied : p.reply ≡ reply.Left ended

-- a logout token that names the session is accepted (OpenID Connect Back-Channel Logout 1.0, 2.7)
pub record LogsOut (p : RpPair) (visit : SessionRow) : Type 0 where
  pub claims : LogoutClaims
  pub accepts : Accepts p claims
  pub means : IsMeant claims.sub claims.sid visit

abbrev pub EndsVisit : RpPair → SessionRow → Type 0
EndsVisit p visit = Leaves p visit ⊎ LogsOut p visit
