use Rattle.std.proofs.Common.{◌≤◌, ap, sym, subst, ◌∙◌, List, reverse, Some}
use Rattle.std.specs.Option.{option_copied}
use Rattle.sso_base.specs.Legal.{last_moment}
use Rattle.sso_base.specs.declared.history.Pair.{Pair}
use Rattle.std.proofs.lemmas.List.{reverse-reverse}
use Rattle.op_answer.specs.Codes.{held_code}
use Rattle.refresh_answer.specs.Around.{inner_history}
use Rattle.core_stack.proofs.Numbers.{low_twice}
use Rattle.refresh_book.proofs.Looking.{inner_same, legal_now, provider_low}
use Rattle.refresh_book.proofs.Owning.{code_is_own}
use Rattle.refresh_book.proofs.refresh_core.RefreshCore.code_of.Goals as goal

pub code-requires : goal.code-requires
code-requires g c =
    let inside = c.self.inside in
    let H = c.args.self.now.history in
    let same = inner_same inside.kept.kept (g.P.Core.history inside.inner) H c.self.invariant.1.count (ap (λ x. x.history) c.self.view_is) in
    let D = λ (l : List (Pair g.row.P-Ask.Denot g.row.P-Reply.Denot)). last_moment (reverse (g.P.Provides.provided l)) ≤ c.args.at in
    let legal = legal_now g.P.Provides.plain_ask g.P.Provides.given_reply g.P.Provides.provided g.P.Provides.IsAsk g.P.Core.weighs g.P.Core.most g.P.Core.is_legal (record { inner = g.P.Core.setup inside.inner; registry = inside.registry }) (g.P.Core.history inside.inner)
    inside.kept.kept inside.kept.weight inside.kept.last inside.kept.most inside.turns.rows inside.codes.rows inside.book c.self.invariant.1 c.args.self.now.history (ap (λ x. x.history) c.self.view_is) in
    subst D (sym same)
    (low_twice (last_moment (reverse (g.P.Provides.provided (inner_history H)))) (last_moment (reverse H)) c.args.at
    (provider_low g.P.Provides.plain_ask g.P.Provides.given_reply g.P.Provides.provided g.P.Provides.IsAsk g.P.Core.weighs g.P.Core.most g.P.Core.is_legal (λ t front rest l. g.met.P.Core.beginnings_are_legal t front rest l)
    (record { inner = g.P.Core.setup inside.inner; registry = inside.registry }) (g.P.Provides.provider_registry inside.inner) (record {
      begins = g.met.P.Provides.begins;
      beginnings = λ front rest l. g.met.P.Core.beginnings_are_legal (g.P.Core.setup inside.inner) front rest l;
      provider = λ l legal. (g.met.P.Provides.is_provider inside.inner l legal).past;
      adds = λ l p legal. g.met.P.Provides.adds_what_it_gives (g.P.Core.setup inside.inner) l p legal;
    }) H legal)
    c.requires)

pub returns-clause-held : goal.returns-clause-held
returns-clause-held g c =
    let inside = c.self.inside in
    let same = inner_same inside.kept.kept (g.P.Core.history inside.inner) c.args.self.now.history c.self.invariant.1.count (ap (λ x. x.history) c.self.view_is) in
    let back = ap (λ l. inner_history l) (sym (reverse-reverse c.args.self.now.history)) in
    let C = λ (l : List (Pair g.row.P-Ask.Denot g.row.P-Reply.Denot)). held_code (reverse (g.P.Provides.provided l)) c.args.at (Some c.args.word) in
    c.code.ensures ∙ ap C (same ∙ back)

pub returns-clause-own : goal.returns-clause-own
returns-clause-own g c =
    let inside = c.self.inside in
    let H = c.args.self.now.history in
    let same = inner_same inside.kept.kept (g.P.Core.history inside.inner) H c.self.invariant.1.count (ap (λ x. x.history) c.self.view_is) in
    let I = λ (l : List (Pair g.row.P-Ask.Denot g.row.P-Reply.Denot)). g.P.Core.is_legal (g.P.Core.setup inside.inner) l in
    let legal = legal_now g.P.Provides.plain_ask g.P.Provides.given_reply g.P.Provides.provided g.P.Provides.IsAsk g.P.Core.weighs g.P.Core.most g.P.Core.is_legal (record { inner = g.P.Core.setup inside.inner; registry = inside.registry }) (g.P.Core.history inside.inner)
    inside.kept.kept inside.kept.weight inside.kept.last inside.kept.most inside.turns.rows inside.codes.rows inside.book c.self.invariant.1 c.args.self.now.history (ap (λ x. x.history) c.self.view_is) in
    code_is_own c.args.self.now.registry (g.P.Provides.provider_registry inside.inner) (g.P.Provides.provided (g.P.Core.history inside.inner)) c.args.at c.args.word (option_copied c.code.result)
    (sym (ap (λ x. x.registry) c.self.view_is) ∙ c.self.invariant.0)
    (g.met.P.Provides.is_provider inside.inner (g.P.Core.history inside.inner) (subst I (sym same) legal.inner))
    c.code.ensures
