-- The precondition for issuing tokens.
use Rattle.std.specs.Prelude.{◌≡◌, ◌≤◌, ◌<◌, ℕ, true, length}
use Rattle.sso_base.specs.Words.{IsWord}
use Rattle.sso_base.specs.Values.{latest_moment}
use Rattle.client_registry.specs.Configuration.{Configuration}
use Rattle.client_registry.specs.Registered.{IsRegistry}
use Rattle.auth_request.specs.declared.wish.Wish.{Wish}
use Rattle.op_issue.specs.declared.issuing.Authentication.{Authentication}
use Rattle.auth_request.specs.Values.{is_short_nonce}

-- at this moment a token may be issued for the wish of a client, to a user who logged in; both are in the registry
pub record MayIssue (c : Configuration) (wish : Wish) (who : Authentication) (at : ℕ) : Type 0 where
  pub registry : IsRegistry c
  pub client : wish.client < length c.clients
  pub user : who.user < length c.users
  pub nonce : is_short_nonce wish.nonce ≡ true
  pub sid : IsWord who.sid
  pub auth_time : who.auth_time ≤ latest_moment
  pub moment : at ≤ latest_moment
