use Rattle.std.proofs.Common.{◌≡◌, ◌≤◌, ◌+◌, ◌++◌, ◌∷◌, [], ap, sym, subst, ◌∙◌, List, ℕ, reverse, Some}
use Rattle.sso_base.specs.Weights.{empty_weight}
use Rattle.sso_base.specs.Journal.{history_weight}
use Rattle.sso_base.specs.declared.history.Pair.{Pair}
use Rattle.core_stack.specs.declared.kept.Kept.TheVariants as kept
use Rattle.refresh_answer.specs.declared.asks.RefreshAsk.{RefreshAsk}
use Rattle.refresh_answer.specs.declared.asks.OwnReply.{OwnReply}
use Rattle.refresh_answer.specs.declared.asks.RefreshReply.TheVariants.{Own}
use Rattle.refresh_answer.specs.Around.{own_pair, outer_weight}
use Rattle.refresh_answer.proofs.Passed.{least_outer}
use Rattle.refresh_book.specs.Keeps.{KeptEntry, is_own_family, IsBookAt}
use Rattle.refresh_book.specs.declared.renewing.Renewal.{Renewal}
use Rattle.refresh_book.specs.Renewing.{reply_of, renewal_asked, MayNote, Noted}
use Rattle.refresh_book.proofs.Renewed.{may_note, renewed_book}
use Rattle.refresh_book.proofs.Committing.{has_room, book_before, turned, renewed_is_own, noted_own, own_history, own_keeps}
use Rattle.refresh_book.proofs.refresh_core.RefreshCore.answer_refresh.Goals as goal

pub turn_to-requires-clause-order : goal.turn_to-requires-clause-order
turn_to-requires-clause-order g c =
    let inside = c.self.inside in
    book_before g.P.Provides.plain_ask g.P.Provides.given_reply g.P.Provides.provided g.P.Provides.IsAsk g.P.Core.weighs g.P.Core.most g.P.Core.is_legal (record { inner = g.P.Core.setup inside.inner; registry = inside.registry }) (g.P.Core.history inside.inner)
    inside.kept.kept inside.kept.weight inside.kept.last inside.kept.most inside.turns.rows inside.codes.rows inside.book c.self.invariant.1 c.args.self.now.history (ap (λ x. x.history) c.self.view_is)
    c.args.entry.at c.requires.order c.reserve_own.new.book c.reserve_own.ensures.book_last

-- the book of the moment may note the renewal
pub note_renewal-requires-clause-may : goal.note_renewal-requires-clause-may
note_renewal-requires-clause-may g c =
    let inside = c.self.inside in
    let now = turned g.P.Provides.plain_ask g.P.Provides.given_reply g.P.Provides.provided g.P.Provides.IsAsk g.P.Core.weighs g.P.Core.most g.P.Core.is_legal (record { inner = g.P.Core.setup inside.inner; registry = inside.registry }) (g.P.Core.history inside.inner)
    inside.kept.kept inside.kept.weight inside.kept.last inside.kept.most inside.turns.rows inside.codes.rows inside.book c.self.invariant.1 c.args.self.now.history (ap (λ x. x.history) c.self.view_is)
    c.args.entry.at c.requires.order c.reserve_own.new.book c.turn_to.new.self c.reserve_own.ensures.families c.reserve_own.ensures.tokens c.reserve_own.ensures.accesses
    c.turn_to.ensures.families c.turn_to.ensures.tokens c.turn_to.ensures.accesses c.turn_to.ensures.last in
    let M = λ (x : Renewal). MayNote c.turn_to.new.self x in
    subst M (sym c.renewal_asked-renewed.ensures)
    (may_note g.P.Provides.plain_ask g.P.Provides.given_reply g.P.Provides.provided (reverse c.args.self.now.history) c.args.entry.at c.args.entry.fresh c.turn_to.new.self c.turn_to.new.self now.book c.args.entry.ask)

pub push-requires-clause-least : goal.push-requires-clause-least
push-requires-clause-least g c =
    let L = λ (n : ℕ). empty_weight ≤ n in
    subst L (sym c.requires.weight) (least_outer g.P.Core.weighs (λ asked. g.met.P.Core.least_weight asked) c.args.entry.ask)

pub push-requires-clause-room : goal.push-requires-clause-room
push-requires-clause-room g c =
    let inside = c.self.inside in
    let W = λ (n : ℕ). n + c.args.weight ≤ c.reserve_own.new.kept.most in
    let M = λ (n : ℕ). inside.kept.weight + c.args.weight ≤ n in
    let R = λ (x : g.P.Core.Setup). history_weight (outer_weight g.P.Core.weighs) c.args.self.now.history + c.args.weight ≤ g.P.Core.most x in
    let room = subst R (sym (ap (λ x. g.P.Core.setup x.inner) c.self.view_is)) c.requires.room in
    subst W (sym c.reserve_own.ensures.weight) (subst M (sym c.reserve_own.ensures.most)
    (has_room g.P.Provides.plain_ask g.P.Provides.given_reply g.P.Provides.provided g.P.Provides.IsAsk g.P.Core.weighs g.P.Core.most g.P.Core.is_legal (record { inner = g.P.Core.setup inside.inner; registry = inside.registry }) (g.P.Core.history inside.inner)
    inside.kept.kept inside.kept.weight inside.kept.last inside.kept.most inside.turns.rows inside.codes.rows inside.book c.self.invariant.1 c.args.self.now.history (ap (λ x. x.history) c.self.view_is) c.args.weight room))

pub invariant_of-self-2 : goal.invariant_of-self-2
invariant_of-self-2 g c =
    let inside = c.self.inside in
    let own : Pair (RefreshAsk g.row.P-Ask.Denot) OwnReply = record { entry = c.args.entry; reply = c.reply_of.result } in
    let K = λ (l : List (KeptEntry g.row.P-Ask.Denot)). l ++ kept.Own own ∷ [] in
    let W = λ (n : ℕ). n + c.args.weight in
    let R = λ (x : g.P.Core.Setup). history_weight (outer_weight g.P.Core.weighs) c.args.self.now.history + c.args.weight ≤ g.P.Core.most x in
    let room = subst R (sym (ap (λ x. g.P.Core.setup x.inner) c.self.view_is)) c.requires.room in
    let now = turned g.P.Provides.plain_ask g.P.Provides.given_reply g.P.Provides.provided g.P.Provides.IsAsk g.P.Core.weighs g.P.Core.most g.P.Core.is_legal (record { inner = g.P.Core.setup inside.inner; registry = inside.registry }) (g.P.Core.history inside.inner)
    inside.kept.kept inside.kept.weight inside.kept.last inside.kept.most inside.turns.rows inside.codes.rows inside.book c.self.invariant.1 c.args.self.now.history (ap (λ x. x.history) c.self.view_is)
    c.args.entry.at c.requires.order c.reserve_own.new.book c.turn_to.new.self c.reserve_own.ensures.families c.reserve_own.ensures.tokens c.reserve_own.ensures.accesses
    c.turn_to.ensures.families c.turn_to.ensures.tokens c.turn_to.ensures.accesses c.turn_to.ensures.last in
    let N = λ (x : Renewal). Noted c.turn_to.new.self c.note_renewal.new.book x in
    let noted = subst N c.renewal_asked-renewed.ensures c.note_renewal.ensures.noted in
    let T = λ (x : Renewal). reply_of x in
    let told : c.reply_of.result ≡ reply_of (renewal_asked c.turn_to.new.self c.args.entry.fresh c.args.entry.ask) = c.reply_of.ensures ∙ ap T c.renewal_asked-renewed.ensures in
    let B = λ (r : OwnReply). IsBookAt g.P.Provides.plain_ask g.P.Provides.given_reply g.P.Provides.provided ((record { entry = c.args.entry; reply = Own r }) ∷ reverse c.args.self.now.history) c.args.entry.at c.note_renewal.new.book in (
      c.self.invariant.0,
      own_keeps g.P.Provides.plain_ask g.P.Provides.given_reply g.P.Provides.provided g.P.Provides.IsAsk g.P.Core.weighs g.P.Core.most g.P.Core.is_legal (record { inner = g.P.Core.setup inside.inner; registry = inside.registry }) (g.P.Core.history inside.inner)
          inside.kept.kept inside.kept.weight inside.kept.last inside.kept.most inside.turns.rows inside.codes.rows inside.book c.self.invariant.1 c.args.self.now.history (ap (λ x. x.history) c.self.view_is)
          own c.push.new.self.kept c.push.new.self.weight c.push.new.self.last c.push.new.self.most c.args.weight c.note_renewal.new.book
          (c.push.ensures.kept ∙ ap K c.reserve_own.ensures.kept) (c.push.ensures.weight ∙ ap W c.reserve_own.ensures.weight) c.push.ensures.last (c.push.ensures.most ∙ c.reserve_own.ensures.most)
          (renewed_is_own g.P.Provides.plain_ask g.P.Provides.given_reply g.P.Provides.provided g.P.Provides.IsAsk g.P.Core.weighs g.P.Core.most g.P.Core.is_legal (record { inner = g.P.Core.setup inside.inner; registry = inside.registry }) (g.P.Core.history inside.inner)
          inside.kept.kept inside.kept.weight inside.kept.last inside.kept.most inside.turns.rows inside.codes.rows inside.book c.self.invariant.1 c.args.self.now.history (ap (λ x. x.history) c.self.view_is)
          c.args.entry.at c.turn_to.new.self now c.args.entry.fresh c.args.entry.ask c.requires.refresh ∙ ap Some (sym told))
          c.requires.order c.requires.values c.requires.weight room
          (subst B (sym told) (renewed_book g.P.Provides.plain_ask g.P.Provides.given_reply g.P.Provides.provided (reverse c.args.self.now.history) c.args.entry.at c.args.entry.fresh c.turn_to.new.self c.note_renewal.new.book now.book c.args.entry.ask c.requires.refresh noted))
          (noted_own (is_own_family inside.registry) c.turn_to.new.self c.note_renewal.new.book c.renewal_asked-renewed.result c.note_renewal.ensures.noted now.own),
    )

pub returns-clause-history : goal.returns-clause-history
returns-clause-history g c =
    let inside = c.self.inside in
    let own : Pair (RefreshAsk g.row.P-Ask.Denot) OwnReply = record { entry = c.args.entry; reply = c.reply_of.result } in
    let X = λ (r : OwnReply). c.args.self.now.history ++ own_pair (record { entry = c.args.entry; reply = r }) ∷ [] in
    let K = λ (l : List (KeptEntry g.row.P-Ask.Denot)). l ++ kept.Own own ∷ [] in
    own_history g.P.Provides.plain_ask g.P.Provides.given_reply g.P.Provides.provided g.P.Provides.IsAsk g.P.Core.weighs g.P.Core.most g.P.Core.is_legal (record { inner = g.P.Core.setup inside.inner; registry = inside.registry }) (g.P.Core.history inside.inner)
    inside.kept.kept inside.kept.weight inside.kept.last inside.kept.most inside.turns.rows inside.codes.rows inside.book c.self.invariant.1 c.args.self.now.history (ap (λ x. x.history) c.self.view_is)
    own c.push.new.self.kept (c.push.ensures.kept ∙ ap K c.reserve_own.ensures.kept)
    ∙ ap X (c.reply_of.ensures ∙ sym c.reply_of-2.ensures)

pub returns-clause-legal : goal.returns-clause-legal
returns-clause-legal g c = (invariant_of-self-2 g c).1.legal
