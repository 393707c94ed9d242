use Rattle.std.proofs.Common.{◌≡◌, drop}
use Rattle.oidc_words.specs.Scopes.{no_scopes}
use Rattle.oidc_words.specs.Claims.{with_scopes}
use Rattle.oidc_words.proofs.scopes.Scopes.with_claims.Given as goal

abbrev pub invariant-loop-place : goal.invariant-loop-place
invariant-loop-place l = with_scopes l.scopes (drop l.place l.names) ≡ with_scopes no_scopes l.names
