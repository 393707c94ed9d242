use Rattle.std.proofs.Common.{◌≡◌, ap, sym, subst, ◌∙◌, true, option_and_then}
use Rattle.sso_base.specs.Rows.{row_of, if_lives}
use Rattle.oidc_words.specs.Lives.{access_life}
use Rattle.client_registry.specs.Configuration.{Configuration}
use Rattle.refresh_answer.specs.Rows.{access_name, access_begun}
use Rattle.refresh_book.specs.Keeps.{is_own_family}
use Rattle.refresh_book.proofs.Looking.{family_looked_up}
use Rattle.refresh_book.proofs.Owning.{good_access}
use Rattle.refresh_book.proofs.refresh_core.RefreshCore.access_family.Goals as goal

pub returns-clause-found : goal.returns-clause-found
returns-clause-found g c =
    let inside = c.self.inside in
    c.family_of_access.ensures ∙ family_looked_up g.P.Provides.plain_ask g.P.Provides.given_reply g.P.Provides.provided g.P.Provides.IsAsk g.P.Core.weighs g.P.Core.most g.P.Core.is_legal (record { inner = g.P.Core.setup inside.inner; registry = inside.registry }) (g.P.Core.history inside.inner)
    inside.kept.kept inside.kept.weight inside.kept.last inside.kept.most inside.turns.rows inside.codes.rows inside.book c.self.invariant.1 c.args.self.now.history (ap (λ x. x.history) c.self.view_is)
    c.args.at c.requires c.args.word

pub returns-clause-own : goal.returns-clause-own
returns-clause-own g c = λ f is.
    let inside = c.self.inside in
    let K = λ (r : Configuration). is_own_family r f ≡ true in
    subst K (ap (λ x. x.registry) c.self.view_is)
    (good_access (is_own_family inside.registry) inside.book.families c.args.at (option_and_then (if_lives access_life access_begun c.args.at) (row_of access_name c.args.word inside.book.accesses)) f
    c.self.invariant.1.own (sym c.family_of_access.ensures ∙ is))
