-- Joining the scope values of one claim after another.
use Rattle.std.proofs.Common.{◌≡◌, ℕ, ◌+◌, List, drop, slice_get, Some, sym, ◌∙◌, ap}
use Rattle.sso_base.proofs.ListSteps.{drop_at}
use Rattle.oidc_words.specs.declared.scopes.Scopes.{Scopes}
use Rattle.oidc_words.specs.Scopes.{joined}
use Rattle.oidc_words.specs.Claims.{scopes_with, with_scopes}

pub one_more : (s : Scopes) (names : List (List ℕ)) (i : ℕ) (name : List ℕ) (w : Scopes) → slice_get names i ≡ Some name → with_scopes s (drop i names) ≡ w → with_scopes (joined s (scopes_with name)) (drop (i + 1) names) ≡ w
one_more s names i name w at is = sym (ap (with_scopes s) (drop_at names i name at)) ∙ is
