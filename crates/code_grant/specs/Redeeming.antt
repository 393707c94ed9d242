-- The redemption of a code (RFC 6749, 4.1.2, 4.1.3 and 10.5; OpenID Connect Core 1.0, 3.1.3.2).
use Rattle.std.specs.Prelude.{◌≡◌, ◌<◌, ◌+◌, ℕ, ◌==◌, false, not, List, Option, Some, None, if◌then◌else◌}
use Rattle.std.specs.Str.{bytes_eq}
use Rattle.sso_base.specs.Rows.{lives}
use Rattle.code_grant.specs.declared.rows.CodeRow.{CodeRow}
use Rattle.code_grant.specs.declared.redeem.Redeem.{Redeem}
use Rattle.code_grant.specs.declared.redeem.Redeem.TheVariants.{Redeemed, Unknown, OtherClient, Spent, Expired, OtherUri}
use Rattle.oidc_words.specs.Lives.{code_usable}

-- the result of redeeming a code with this row, for a client, a redirect URI and a moment: the first that applies
abbrev pub redeem_of : ℕ → List ℕ → ℕ → Option CodeRow → Redeem
redeem_of client redirect at None = Unknown
redeem_of client redirect at (Some code) =
    if not (code.wish.client == client) then OtherClient
    else if code.spent then Spent
    else if not (lives code_usable code.issued at) then Expired
    else if not (bytes_eq code.wish.redirect redirect) then OtherUri
    else Redeemed

-- the client may redeem the code with the redirect URI at the moment
pub record IsRedeemable (client : ℕ) (redirect : List ℕ) (at : ℕ) (code : CodeRow) : Type 0 where
  pub own_client : code.wish.client ≡ client
  pub unspent : code.spent ≡ false
  pub in_time : at < code.issued + code_usable
  pub own_uri : code.wish.redirect ≡ redirect
