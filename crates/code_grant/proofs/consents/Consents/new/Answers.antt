use Rattle.std.proofs.Common.{replicate, ap, ◌∙◌}
use Rattle.oidc_words.specs.declared.scopes.Scopes.{Scopes}
use Rattle.code_grant.specs.Consents.{no_consents}
use Rattle.code_grant.proofs.consents.Consents.new.Goals as goal

pub returns : goal.returns
unfolding no_consents
returns c = c.in_ok-vec.ensures.items_if_clones_equal (λ y k. k) ∙ ap (λ (s : Scopes). replicate 65536 s) c.none.ensures
