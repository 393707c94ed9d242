-- The precondition for issuing logout tokens.
use Rattle.std.specs.Prelude.{◌≤◌, ◌<◌, ℕ, length}
use Rattle.sso_base.specs.Words.{IsWord}
use Rattle.sso_base.specs.Values.{latest_moment}
use Rattle.client_registry.specs.Configuration.{Configuration}
use Rattle.client_registry.specs.Registered.{IsRegistry}
use Rattle.op_issue.specs.declared.sign_out.SignOut.{SignOut}

-- a logout token may be issued for the client with a number, about the sign-out of a user; both are in the registry
pub record MayEnd (c : Configuration) (n : ℕ) (out : SignOut) : Type 0 where
  pub registry : IsRegistry c
  pub client : n < length c.clients
  pub user : out.who.user < length c.users
  pub sid : IsWord out.who.sid
  pub word : IsWord out.word
  pub moment : out.at ≤ latest_moment
