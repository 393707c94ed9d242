use Rattle.std.proofs.Common.{◌≡◌, ◌≤◌, ◌+◌, ◌++◌, ◌∷◌, [], ap, sym, subst, ◌∙◌, List, ℕ, reverse, Some}
use Rattle.sso_base.specs.Weights.{empty_weight}
use Rattle.sso_base.specs.Journal.{history_weight}
use Rattle.client_registry.specs.Configuration.{Configuration}
use Rattle.sso_base.specs.declared.history.Pair.{Pair}
use Rattle.core_stack.specs.declared.kept.Kept.TheVariants as kept
use Rattle.refresh_answer.specs.declared.asks.RefreshAsk.{RefreshAsk}
use Rattle.refresh_answer.specs.declared.asks.OwnReply.{OwnReply}
use Rattle.refresh_answer.specs.Around.{outer_plain, outer_weight}
use Rattle.refresh_answer.specs.Answering.{info_reply}
use Rattle.refresh_answer.proofs.Passed.{least_outer}
use Rattle.refresh_book.specs.Keeps.{KeptEntry}
use Rattle.refresh_book.proofs.Passed.{info_book}
use Rattle.refresh_book.proofs.Committing.{has_room, book_before, turned, info_is_own, own_history, own_keeps}
use Rattle.refresh_book.proofs.refresh_core.RefreshCore.answer_info.Goals as goal

pub turn_to-requires-clause-order : goal.turn_to-requires-clause-order
turn_to-requires-clause-order g c =
    let inside = c.self.inside in
    book_before g.P.Provides.plain_ask g.P.Provides.given_reply g.P.Provides.provided g.P.Provides.IsAsk g.P.Core.weighs g.P.Core.most g.P.Core.is_legal (record { inner = g.P.Core.setup inside.inner; registry = inside.registry }) (g.P.Core.history inside.inner)
    inside.kept.kept inside.kept.weight inside.kept.last inside.kept.most inside.turns.rows inside.codes.rows inside.book c.self.invariant.1 c.args.self.now.history (ap (λ x. x.history) c.self.view_is)
    c.args.entry.at c.requires.order c.prepared.new.book c.prepared.ensures.book_last

pub push-requires-clause-least : goal.push-requires-clause-least
push-requires-clause-least g c =
    let L = λ (n : ℕ). empty_weight ≤ n in
    subst L (sym c.requires.weight) (least_outer g.P.Core.weighs (λ asked. g.met.P.Core.least_weight asked) c.args.entry.ask)

pub push-requires-clause-room : goal.push-requires-clause-room
push-requires-clause-room g c =
    let inside = c.self.inside in
    let W = λ (n : ℕ). n + c.args.weight ≤ c.prepared.new.kept.most in
    let M = λ (n : ℕ). inside.kept.weight + c.args.weight ≤ n in
    let R = λ (x : g.P.Core.Setup). history_weight (outer_weight g.P.Core.weighs) c.args.self.now.history + c.args.weight ≤ g.P.Core.most x in
    let room = subst R (sym (ap (λ x. g.P.Core.setup x.inner) c.self.view_is)) c.requires.room in
    subst W (sym c.prepared.ensures.weight) (subst M (sym c.prepared.ensures.most)
    (has_room g.P.Provides.plain_ask g.P.Provides.given_reply g.P.Provides.provided g.P.Provides.IsAsk g.P.Core.weighs g.P.Core.most g.P.Core.is_legal (record { inner = g.P.Core.setup inside.inner; registry = inside.registry }) (g.P.Core.history inside.inner)
    inside.kept.kept inside.kept.weight inside.kept.last inside.kept.most inside.turns.rows inside.codes.rows inside.book c.self.invariant.1 c.args.self.now.history (ap (λ x. x.history) c.self.view_is) c.args.weight room))

pub invariant_of-self-2 : goal.invariant_of-self-2
invariant_of-self-2 g c =
    let inside = c.self.inside in
    let own : Pair (RefreshAsk g.row.P-Ask.Denot) OwnReply = record { entry = c.args.entry; reply = c.args.reply } in
    let K = λ (l : List (KeptEntry g.row.P-Ask.Denot)). l ++ kept.Own own ∷ [] in
    let W = λ (n : ℕ). n + c.args.weight in
    let R = λ (x : g.P.Core.Setup). history_weight (outer_weight g.P.Core.weighs) c.args.self.now.history + c.args.weight ≤ g.P.Core.most x in
    let room = subst R (sym (ap (λ x. g.P.Core.setup x.inner) c.self.view_is)) c.requires.room in
    let O = λ (r : Configuration). info_reply g.P.Provides.plain_ask g.P.Provides.given_reply g.P.Provides.provided r (reverse c.args.self.now.history) c.args.entry.at (outer_plain g.P.Provides.plain_ask c.args.entry.ask) ≡ Some c.args.reply in
    let now = turned g.P.Provides.plain_ask g.P.Provides.given_reply g.P.Provides.provided g.P.Provides.IsAsk g.P.Core.weighs g.P.Core.most g.P.Core.is_legal (record { inner = g.P.Core.setup inside.inner; registry = inside.registry }) (g.P.Core.history inside.inner)
    inside.kept.kept inside.kept.weight inside.kept.last inside.kept.most inside.turns.rows inside.codes.rows inside.book c.self.invariant.1 c.args.self.now.history (ap (λ x. x.history) c.self.view_is)
    c.args.entry.at c.requires.order c.prepared.new.book c.turn_to.new.self c.prepared.ensures.families c.prepared.ensures.tokens c.prepared.ensures.accesses
    c.turn_to.ensures.families c.turn_to.ensures.tokens c.turn_to.ensures.accesses c.turn_to.ensures.last in (
      c.self.invariant.0,
      own_keeps g.P.Provides.plain_ask g.P.Provides.given_reply g.P.Provides.provided g.P.Provides.IsAsk g.P.Core.weighs g.P.Core.most g.P.Core.is_legal (record { inner = g.P.Core.setup inside.inner; registry = inside.registry }) (g.P.Core.history inside.inner)
          inside.kept.kept inside.kept.weight inside.kept.last inside.kept.most inside.turns.rows inside.codes.rows inside.book c.self.invariant.1 c.args.self.now.history (ap (λ x. x.history) c.self.view_is)
          own c.push.new.self.kept c.push.new.self.weight c.push.new.self.last c.push.new.self.most c.args.weight c.turn_to.new.self
          (c.push.ensures.kept ∙ ap K c.prepared.ensures.kept) (c.push.ensures.weight ∙ ap W c.prepared.ensures.weight) c.push.ensures.last (c.push.ensures.most ∙ c.prepared.ensures.most)
          (info_is_own g.P.Provides.plain_ask g.P.Provides.given_reply g.P.Provides.provided g.P.Provides.IsAsk g.P.Core.weighs g.P.Core.most g.P.Core.is_legal (record { inner = g.P.Core.setup inside.inner; registry = inside.registry }) (g.P.Core.history inside.inner)
          inside.kept.kept inside.kept.weight inside.kept.last inside.kept.most inside.turns.rows inside.codes.rows inside.book c.self.invariant.1 c.args.self.now.history (ap (λ x. x.history) c.self.view_is)
          c.args.entry.at c.args.entry.fresh c.args.entry.ask c.args.reply (subst O (sym (ap (λ x. x.registry) c.self.view_is)) c.requires.own))
          c.requires.order c.requires.values c.requires.weight room
          (info_book g.P.Provides.plain_ask g.P.Provides.given_reply g.P.Provides.provided (reverse c.args.self.now.history) c.args.entry.at c.turn_to.new.self c.turn_to.new.self now.book inside.registry c.args.entry.fresh c.args.entry.ask c.args.reply (subst O (sym (ap (λ x. x.registry) c.self.view_is)) c.requires.own))
          now.own,
    )

pub returns-clause-history : goal.returns-clause-history
returns-clause-history g c =
    let inside = c.self.inside in
    let own : Pair (RefreshAsk g.row.P-Ask.Denot) OwnReply = record { entry = c.args.entry; reply = c.args.reply } in
    let K = λ (l : List (KeptEntry g.row.P-Ask.Denot)). l ++ kept.Own own ∷ [] in
    own_history g.P.Provides.plain_ask g.P.Provides.given_reply g.P.Provides.provided g.P.Provides.IsAsk g.P.Core.weighs g.P.Core.most g.P.Core.is_legal (record { inner = g.P.Core.setup inside.inner; registry = inside.registry }) (g.P.Core.history inside.inner)
    inside.kept.kept inside.kept.weight inside.kept.last inside.kept.most inside.turns.rows inside.codes.rows inside.book c.self.invariant.1 c.args.self.now.history (ap (λ x. x.history) c.self.view_is)
    own c.push.new.self.kept (c.push.ensures.kept ∙ ap K c.prepared.ensures.kept)

pub returns-clause-legal : goal.returns-clause-legal
returns-clause-legal g c = (invariant_of-self-2 g c).1.legal
