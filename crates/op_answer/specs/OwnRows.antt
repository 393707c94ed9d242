-- The contents of the rows of a legal past: wishes that requests to this provider can have, and users and clients of the
-- registry. Their moments are moments of the past.
use Rattle.std.specs.Prelude.{◌≡◌, ◌≤◌, true}
use Rattle.sso_base.specs.Words.{IsWord}
use Rattle.sso_base.specs.Legal.{last_moment}
use Rattle.client_registry.specs.Configuration.{Configuration}
use Rattle.client_registry.specs.Numbers.{is_client, is_user}
use Rattle.auth_request.specs.declared.wish.Wish.{Wish}
use Rattle.auth_request.specs.Values.{IsWishValue}
use Rattle.code_grant.specs.declared.rows.TurnRow.{TurnRow}
use Rattle.code_grant.specs.declared.rows.SessionRow.{SessionRow}
use Rattle.code_grant.specs.declared.rows.CodeRow.{CodeRow}
use Rattle.code_grant.specs.declared.rows.TokenRow.{TokenRow}
use Rattle.op_exchange.specs.Asks.{is_prepared_wish}
use Rattle.op_answer.specs.Past.{OpPast}

-- a wish that a request can have
pub record IsOwnWish (c : Configuration) (wish : Wish) : Type 0 where
  pub prepared : is_prepared_wish c wish ≡ true
  pub value : IsWishValue wish

pub record IsOwnTurn (c : Configuration) (past : OpPast) (row : TurnRow) : Type 0 where
  pub wish : IsOwnWish c row.wish
  pub begun : row.begun ≤ last_moment past

pub record IsOwnSession (c : Configuration) (past : OpPast) (row : SessionRow) : Type 0 where
  pub user : is_user c row.user ≡ true
  pub sid : IsWord row.sid
  pub auth_time : row.auth_time ≤ last_moment past

pub record IsOwnCode (c : Configuration) (past : OpPast) (row : CodeRow) : Type 0 where
  pub wish : IsOwnWish c row.wish
  pub user : is_user c row.user ≡ true
  pub sid : IsWord row.sid
  pub auth_time : row.auth_time ≤ last_moment past
  pub issued : row.issued ≤ last_moment past

pub record IsOwnToken (c : Configuration) (past : OpPast) (row : TokenRow) : Type 0 where
  pub client : is_client c row.client ≡ true
  pub user : is_user c row.user ≡ true
  pub issued : row.issued ≤ last_moment past
