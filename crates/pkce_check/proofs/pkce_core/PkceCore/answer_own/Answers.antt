use Rattle.std.proofs.Common.{◌≤◌, ◌+◌, ◌++◌, ◌∷◌, [], ap, sym, subst, ◌∙◌, List, ℕ}
use Rattle.sso_base.specs.Weights.{empty_weight}
use Rattle.sso_base.specs.Journal.{history_weight}
use Rattle.core_stack.specs.declared.kept.Kept.TheVariants as kept
use Rattle.pkce_answer.specs.Around.{outer_weight}
use Rattle.pkce_answer.proofs.Refusing.{least_outer}
use Rattle.pkce_check.specs.Keeps.{KeptEntry}
use Rattle.pkce_check.proofs.Committing.{has_room, own_history, own_keeps}
use Rattle.pkce_check.proofs.pkce_core.PkceCore.answer_own.Goals as goal

pub push-requires-clause-least : goal.push-requires-clause-least
push-requires-clause-least g c =
    let L = λ (n : ℕ). empty_weight ≤ n in
    subst L (sym c.requires.weight) (least_outer g.P.Core.weighs (λ asked. g.met.P.Core.least_weight asked) c.args.entry.ask)

pub push-requires-clause-room : goal.push-requires-clause-room
push-requires-clause-room g c =
    let inside = c.self.inside in
    let W = λ (n : ℕ). n + c.args.weight ≤ c.copied.new.kept.most in
    let M = λ (n : ℕ). inside.kept.weight + c.args.weight ≤ n in
    let R = λ (x : g.P.Core.Setup). history_weight (outer_weight g.P.Core.weighs) c.args.self.now.history + c.args.weight ≤ g.P.Core.most x in
    let room = subst R (sym (ap (λ x. g.P.Core.setup x.inner) c.self.view_is)) c.requires.room in
    subst W (sym c.copied.ensures.weight) (subst M (sym c.copied.ensures.most)
    (has_room g.P.Provides.plain_ask g.P.Provides.given_reply g.P.Provides.IsAsk g.P.Core.weighs g.P.Core.most g.P.Core.is_legal (g.P.Core.setup inside.inner) (g.P.Core.history inside.inner)
    inside.kept.kept inside.kept.weight inside.kept.last inside.kept.most inside.turns.rows inside.codes.rows c.self.invariant c.args.self.now.history (ap (λ x. x.history) c.self.view_is) c.args.weight room))

pub invariant_of-self-2 : goal.invariant_of-self-2
invariant_of-self-2 g c =
    let inside = c.self.inside in
    let K = λ (l : List (KeptEntry g.row.P-Ask.Denot)). l ++ kept.Own (record { entry = c.args.entry; reply = c.args.reply }) ∷ [] in
    let W = λ (n : ℕ). n + c.args.weight in
    let R = λ (x : g.P.Core.Setup). history_weight (outer_weight g.P.Core.weighs) c.args.self.now.history + c.args.weight ≤ g.P.Core.most x in
    let room = subst R (sym (ap (λ x. g.P.Core.setup x.inner) c.self.view_is)) c.requires.room in
    own_keeps g.P.Provides.plain_ask g.P.Provides.given_reply g.P.Provides.IsAsk g.P.Core.weighs g.P.Core.most g.P.Core.is_legal (g.P.Core.setup inside.inner) (g.P.Core.history inside.inner)
    inside.kept.kept inside.kept.weight inside.kept.last inside.kept.most inside.turns.rows inside.codes.rows c.self.invariant c.args.self.now.history (ap (λ x. x.history) c.self.view_is)
    (record { entry = c.args.entry; reply = c.args.reply }) c.push.new.self.kept c.push.new.self.weight c.push.new.self.last c.push.new.self.most c.args.weight
    (c.push.ensures.kept ∙ ap K c.copied.ensures.kept) (c.push.ensures.weight ∙ ap W c.copied.ensures.weight) c.push.ensures.last (c.push.ensures.most ∙ c.copied.ensures.most)
    c.requires.refused c.requires.order c.requires.values c.requires.weight room

pub returns-clause-history : goal.returns-clause-history
returns-clause-history g c =
    let inside = c.self.inside in
    let K = λ (l : List (KeptEntry g.row.P-Ask.Denot)). l ++ kept.Own (record { entry = c.args.entry; reply = c.args.reply }) ∷ [] in
    own_history g.P.Provides.plain_ask g.P.Provides.given_reply g.P.Provides.IsAsk g.P.Core.weighs g.P.Core.most g.P.Core.is_legal (g.P.Core.setup inside.inner) (g.P.Core.history inside.inner)
    inside.kept.kept inside.kept.weight inside.kept.last inside.kept.most inside.turns.rows inside.codes.rows c.self.invariant c.args.self.now.history (ap (λ x. x.history) c.self.view_is)
    (record { entry = c.args.entry; reply = c.args.reply }) c.push.new.self.kept (c.push.ensures.kept ∙ ap K c.copied.ensures.kept)

pub returns-clause-legal : goal.returns-clause-legal
returns-clause-legal g c = (invariant_of-self-2 g c).legal
