-- What the replies to logout requests say: each test of the logout token is seen here once.
use Rattle.std.proofs.Common.{◌≡◌, Option, Some, None, Result, Ok, Err, refl}
use Rattle.sso_base.specs.declared.history.Entry.{Entry}
use Rattle.logout_token.specs.declared.claims.LogoutClaims.{LogoutClaims}
use Rattle.logout_token.specs.declared.no.LogoutNo.{LogoutNo}
use Rattle.logout_token.specs.Judging.{logout_judged}
use Rattle.rp_login.specs.declared.rows.SeenRow.{SeenRow}
use Rattle.rp_exchange.specs.declared.ask.RpAsk.{RpAsk}
use Rattle.rp_exchange.specs.declared.ask.RpAsk.TheVariants as ask
use Rattle.rp_answer.specs.Past.{RpPast}
use Rattle.rp_answer.specs.Setup.{PartySetup, client_of}
use Rattle.rp_answer.specs.Seens.{live_seen}
use Rattle.rp_answer.specs.Replies.{logout_new, logout_good, logout}
use Rattle.rp_answer.proofs.Caused.{Caused}

module _ (s : PartySetup) (past : RpPast) (e : Entry RpAsk) where
  seen_by : (claims : LogoutClaims) (good : Unit {0}) → logout_judged s.provider.issuer (client_of s).id claims e.at ≡ Ok good → (found : Option SeenRow) → live_seen past e.at claims.jti ≡ found
      → Caused s past e (ask.Logout (Ok claims)) (logout_new s past e claims found)
  seen_by claims good judged None unseen = record { good = good; judged = judged; unseen = unseen; count_is = refl }
  seen_by claims good judged (Some seen) live = record { good = good; judged = judged; seen = seen; live = live; place_is = refl }

  judged_by : (claims : LogoutClaims) (judged : Result (Unit {0}) LogoutNo) → logout_judged s.provider.issuer (client_of s).id claims e.at ≡ judged
      → Caused s past e (ask.Logout (Ok claims)) (logout_good s past e claims judged)
  judged_by claims (Err why) judged = record { judged = judged }
  judged_by claims (Ok good) judged = seen_by claims good judged (live_seen past e.at claims.jti) refl

  pub logouts_caused : (claims : Result LogoutClaims LogoutNo) → Caused s past e (ask.Logout claims) (logout s past e claims)
  logouts_caused (Err why) = refl
  logouts_caused (Ok claims) = judged_by claims (logout_judged s.provider.issuer (client_of s).id claims e.at) refl
