use Rattle.std.proofs.Common.{◌≡◌, ◌≤◌, ◌+◌, ◌++◌, ◌∷◌, [], ap, sym, subst, ◌∙◌, List, Option, None, Err, ℕ, reverse}
use Rattle.std.specs.Option.{option_copied}
use Rattle.sso_base.specs.Words.{Word}
use Rattle.sso_base.specs.Rows.{live_rows}
use Rattle.sso_base.specs.Weights.{empty_weight}
use Rattle.sso_base.specs.Journal.{history_weight}
use Rattle.sso_base.specs.declared.step.CoreNo.TheVariants as no
use Rattle.sso_base.proofs.Refusals.{one_error}
use Rattle.oidc_words.specs.Lives.{turn_life, code_life}
use Rattle.core_stack.specs.declared.kept.Kept.TheVariants as kept
use Rattle.core_stack.specs.Rows.{turn_mark_begun, code_mark_begun}
use Rattle.core_stack.specs.Marks.{is_wish, turn_row, named_in, turn_ended, turns_left, code_row, answer_mark}
use Rattle.pkce_answer.specs.declared.asks.PkceParts.{PkceParts}
use Rattle.pkce_answer.specs.Challenges.{sent, asked_mark}
use Rattle.pkce_answer.specs.Around.{outer_plain, outer_given, outer_weight}
use Rattle.pkce_answer.proofs.Refusing.{least_outer}
use Rattle.pkce_check.specs.Keeps.{KeptEntry, Keeps}
use Rattle.pkce_check.proofs.Committing.{has_room, inner_has_room, passed_history, passed_legal, passed_keeps, turn_fits, code_fits, turn_row_same, code_row_same, left_same, live_codes_same, put_turn_same, put_code_same}
use Rattle.pkce_check.proofs.pkce_core.PkceCore.pass.Goals as goal

pub returns-in-Err-clause-room : goal.returns-in-Err-clause-room
returns-in-Err-clause-room g c w full =
    let inside = c.self.inside in
    let same : c.pass_on.result ≡ Err (no.JournalFull w) = c.in-Err.is ∙ ap Err (one_error c.in-Err.no (no.JournalFull w) full) in
    let e = c.pass_on.ensures.full w same in
    let O = λ (n : ℕ). history_weight (outer_weight g.P.Core.weighs) c.args.self.now.history + n ≤ g.P.Core.most (g.P.Core.setup c.args.self.now.inner) in
    let S = λ (x : g.P.Core.Setup). history_weight (outer_weight g.P.Core.weighs) c.args.self.now.history + outer_weight g.P.Core.weighs c.args.entry.ask ≤ g.P.Core.most x in
    inner_has_room g.P.Provides.plain_ask g.P.Provides.given_reply g.P.Provides.IsAsk g.P.Core.weighs g.P.Core.most g.P.Core.is_legal (g.P.Core.setup inside.inner) (g.P.Core.history inside.inner)
    inside.kept.kept inside.kept.weight inside.kept.last inside.kept.most inside.turns.rows inside.codes.rows c.self.invariant c.args.self.now.history (ap (λ x. x.history) c.self.view_is)
    c.args.entry.ask (subst S (sym (ap (λ x. g.P.Core.setup x.inner) c.self.view_is)) (subst O c.requires.weight c.requires.room)) w e.0 e.1

pub note-requires-clause-least : goal.note-requires-clause-least
note-requires-clause-least g c =
    let L = λ (n : ℕ). empty_weight ≤ n in
    subst L (sym c.requires.weight) (least_outer g.P.Core.weighs (λ asked. g.met.P.Core.least_weight asked) c.args.entry.ask)

pub note-requires-clause-room : goal.note-requires-clause-room
note-requires-clause-room g c =
    let inside = c.self.inside in
    let W = λ (n : ℕ). n + c.args.weight ≤ c.pass_on.new.kept.most in
    let M = λ (n : ℕ). inside.kept.weight + c.args.weight ≤ n in
    let R = λ (x : g.P.Core.Setup). history_weight (outer_weight g.P.Core.weighs) c.args.self.now.history + c.args.weight ≤ g.P.Core.most x in
    let room = subst R (sym (ap (λ x. g.P.Core.setup x.inner) c.self.view_is)) c.requires.room in
    subst W (sym c.pass_on.ensures.weight) (subst M (sym c.pass_on.ensures.most)
    (has_room g.P.Provides.plain_ask g.P.Provides.given_reply g.P.Provides.IsAsk g.P.Core.weighs g.P.Core.most g.P.Core.is_legal (g.P.Core.setup inside.inner) (g.P.Core.history inside.inner)
    inside.kept.kept inside.kept.weight inside.kept.last inside.kept.most inside.turns.rows inside.codes.rows c.self.invariant c.args.self.now.history (ap (λ x. x.history) c.self.view_is) c.args.weight room))

pub note-requires-clause-turn : goal.note-requires-clause-turn
note-requires-clause-turn g c =
    let pending = c.pending-pending.result in
    let changes = c.changes_of-changes.result in
    let E = λ (o : Option Word). turns_left o (live_rows turn_life turn_mark_begun c.args.entry.at c.pass_on.new.turns.rows) in
    let inside = c.self.inside in
    let asked = c.args.entry.ask in
    let parts : PkceParts = record { challenge = asked.challenge; verifier = asked.verifier } in
    let R = λ (x : g.P.Core.Setup). history_weight (outer_weight g.P.Core.weighs) c.args.self.now.history + c.args.weight ≤ g.P.Core.most x in
    let room = subst R (sym (ap (λ x. g.P.Core.setup x.inner) c.self.view_is)) c.requires.room in
    let I = λ (t : g.P.Core.Setup). g.P.Core.is_legal t (g.P.Core.history c.pass_on.new.inner) in
    let legal =
    passed_legal g.P.Provides.plain_ask g.P.Provides.given_reply g.P.Provides.IsAsk g.P.Core.weighs g.P.Core.most g.P.Core.is_legal (g.P.Core.setup inside.inner) (g.P.Core.history inside.inner)
    inside.kept.kept inside.kept.weight inside.kept.last inside.kept.most inside.turns.rows inside.codes.rows c.self.invariant c.args.self.now.history (ap (λ x. x.history) c.self.view_is)
    c.args.entry.at c.args.entry.fresh parts asked.inner c.in-Ok.reply (g.P.Core.history c.pass_on.new.inner) c.args.weight c.requires.order c.in-Ok.ensures.history c.requires.passes c.requires.values c.requires.weight
    room (subst I c.pass_on.ensures.setup c.in-Ok.ensures.legal) in
    turn_fits g.P.Provides.plain_ask g.P.Provides.given_reply g.P.Provides.IsAsk g.P.Core.weighs g.P.Core.most g.P.Core.is_legal (g.P.Core.setup inside.inner) (g.P.Core.history inside.inner)
    inside.kept.kept inside.kept.weight inside.kept.last inside.kept.most inside.turns.rows inside.codes.rows c.self.invariant c.args.self.now.history (ap (λ x. x.history) c.self.view_is)
    c.args.entry.at c.args.entry.fresh parts asked.inner c.in-Ok.reply (λ t front rest l. g.met.P.Core.beginnings_are_legal t front rest l) g.P.Provides.provided (g.P.Provides.provider_registry inside.inner)
    (record {
      begins = g.met.P.Provides.begins;
      beginnings = λ front rest l. g.met.P.Core.beginnings_are_legal (g.P.Core.setup inside.inner) front rest l;
      provider = λ l legal. (g.met.P.Provides.is_provider inside.inner l legal).past;
      adds = λ l p legal. g.met.P.Provides.adds_what_it_gives (g.P.Core.setup inside.inner) l p legal;
    })
    changes.begun
    (turns_left changes.ended (live_rows turn_life turn_mark_begun c.args.entry.at c.pass_on.new.turns.rows))
    c.requires.order legal (c.changes_of-changes.ensures.begun ∙ (turn_row_same (option_copied c.given.result) (g.P.Provides.given_reply c.in-Ok.reply) pending.wish (is_wish (g.P.Provides.plain_ask asked.inner)) pending.sent (sent parts.challenge) c.args.entry.at
    c.given.ensures c.pending-pending.ensures.wish c.pending-pending.ensures.sent))
    (ap E c.changes_of-changes.ensures.ended ∙ (left_same (option_copied c.given.result) (g.P.Provides.given_reply c.in-Ok.reply) pending.turn (named_in (g.P.Provides.plain_ask asked.inner)) c.args.entry.at c.pass_on.new.turns.rows inside.turns.rows
    c.given.ensures c.pending-pending.ensures.turn c.pass_on.ensures.turns))

pub note-requires-clause-code : goal.note-requires-clause-code
note-requires-clause-code g c =
    let pending = c.pending-pending.result in
    let changes = c.changes_of-changes.result in
    let inside = c.self.inside in
    let asked = c.args.entry.ask in
    let parts : PkceParts = record { challenge = asked.challenge; verifier = asked.verifier } in
    let R = λ (x : g.P.Core.Setup). history_weight (outer_weight g.P.Core.weighs) c.args.self.now.history + c.args.weight ≤ g.P.Core.most x in
    let room = subst R (sym (ap (λ x. g.P.Core.setup x.inner) c.self.view_is)) c.requires.room in
    let I = λ (t : g.P.Core.Setup). g.P.Core.is_legal t (g.P.Core.history c.pass_on.new.inner) in
    let legal =
    passed_legal g.P.Provides.plain_ask g.P.Provides.given_reply g.P.Provides.IsAsk g.P.Core.weighs g.P.Core.most g.P.Core.is_legal (g.P.Core.setup inside.inner) (g.P.Core.history inside.inner)
    inside.kept.kept inside.kept.weight inside.kept.last inside.kept.most inside.turns.rows inside.codes.rows c.self.invariant c.args.self.now.history (ap (λ x. x.history) c.self.view_is)
    c.args.entry.at c.args.entry.fresh parts asked.inner c.in-Ok.reply (g.P.Core.history c.pass_on.new.inner) c.args.weight c.requires.order c.in-Ok.ensures.history c.requires.passes c.requires.values c.requires.weight
    room (subst I c.pass_on.ensures.setup c.in-Ok.ensures.legal) in
    code_fits g.P.Provides.plain_ask g.P.Provides.given_reply g.P.Provides.IsAsk g.P.Core.weighs g.P.Core.most g.P.Core.is_legal (g.P.Core.setup inside.inner) (g.P.Core.history inside.inner)
    inside.kept.kept inside.kept.weight inside.kept.last inside.kept.most inside.turns.rows inside.codes.rows c.self.invariant c.args.self.now.history (ap (λ x. x.history) c.self.view_is)
    c.args.entry.at c.args.entry.fresh parts asked.inner c.in-Ok.reply (λ t front rest l. g.met.P.Core.beginnings_are_legal t front rest l) g.P.Provides.provided (g.P.Provides.provider_registry inside.inner)
    (record {
      begins = g.met.P.Provides.begins;
      beginnings = λ front rest l. g.met.P.Core.beginnings_are_legal (g.P.Core.setup inside.inner) front rest l;
      provider = λ l legal. (g.met.P.Provides.is_provider inside.inner l legal).past;
      adds = λ l p legal. g.met.P.Provides.adds_what_it_gives (g.P.Core.setup inside.inner) l p legal;
    })
    changes.made (live_rows code_life code_mark_begun c.args.entry.at c.pass_on.new.codes.rows)
    c.requires.order legal (c.changes_of-changes.ensures.made ∙ (code_row_same (option_copied c.given.result) (g.P.Provides.given_reply c.in-Ok.reply) pending.answer (answer_mark (outer_plain g.P.Provides.plain_ask) (outer_given g.P.Provides.given_reply) asked_mark None (reverse c.args.self.now.history) c.args.entry.at (sent parts.challenge) (g.P.Provides.plain_ask asked.inner)) c.args.entry.at
    c.given.ensures c.pending-pending.ensures.answer)) (live_codes_same c.args.entry.at c.pass_on.new.codes.rows inside.codes.rows c.pass_on.ensures.codes)

pub invariant_of-self-2 : goal.invariant_of-self-2
invariant_of-self-2 g c =
    let pending = c.pending-pending.result in
    let changes = c.changes_of-changes.result in
    let E = λ (o : Option Word). turns_left o (live_rows turn_life turn_mark_begun c.args.entry.at c.pass_on.new.turns.rows) in
    let inside = c.self.inside in
    let asked = c.args.entry.ask in
    let parts : PkceParts = record { challenge = asked.challenge; verifier = asked.verifier } in
    let R = λ (x : g.P.Core.Setup). history_weight (outer_weight g.P.Core.weighs) c.args.self.now.history + c.args.weight ≤ g.P.Core.most x in
    let room = subst R (sym (ap (λ x. g.P.Core.setup x.inner) c.self.view_is)) c.requires.room in
    let I = λ (t : g.P.Core.Setup). g.P.Core.is_legal t (g.P.Core.history c.pass_on.new.inner) in
    let legal =
    passed_legal g.P.Provides.plain_ask g.P.Provides.given_reply g.P.Provides.IsAsk g.P.Core.weighs g.P.Core.most g.P.Core.is_legal (g.P.Core.setup inside.inner) (g.P.Core.history inside.inner)
    inside.kept.kept inside.kept.weight inside.kept.last inside.kept.most inside.turns.rows inside.codes.rows c.self.invariant c.args.self.now.history (ap (λ x. x.history) c.self.view_is)
    c.args.entry.at c.args.entry.fresh parts asked.inner c.in-Ok.reply (g.P.Core.history c.pass_on.new.inner) c.args.weight c.requires.order c.in-Ok.ensures.history c.requires.passes c.requires.values c.requires.weight
    room (subst I c.pass_on.ensures.setup c.in-Ok.ensures.legal) in
    let S =
    λ (t : g.P.Core.Setup).
    Keeps g.P.Provides.plain_ask g.P.Provides.given_reply g.P.Provides.IsAsk g.P.Core.weighs g.P.Core.most g.P.Core.is_legal t (g.P.Core.history c.pass_on.new.inner)
    c.note.new.kept.kept c.note.new.kept.weight c.note.new.kept.last c.note.new.kept.most c.note.new.turns.rows c.note.new.codes.rows in
    let K = λ (l : List (KeptEntry g.row.P-Ask.Denot)). l ++ kept.Passed parts ∷ [] in
    let W = λ (n : ℕ). n + c.args.weight in
    subst S (sym c.pass_on.ensures.setup)
    (passed_keeps g.P.Provides.plain_ask g.P.Provides.given_reply g.P.Provides.IsAsk g.P.Core.weighs g.P.Core.most g.P.Core.is_legal (g.P.Core.setup inside.inner) (g.P.Core.history inside.inner)
    inside.kept.kept inside.kept.weight inside.kept.last inside.kept.most inside.turns.rows inside.codes.rows c.self.invariant c.args.self.now.history (ap (λ x. x.history) c.self.view_is)
    c.args.entry.at c.args.entry.fresh parts asked.inner c.in-Ok.reply c.note.new.kept.kept (g.P.Core.history c.pass_on.new.inner) c.note.new.kept.weight c.note.new.kept.last c.note.new.kept.most c.args.weight
    c.note.new.turns.rows c.note.new.codes.rows c.requires.order (c.note.ensures.kept ∙ ap K c.pass_on.ensures.kept) c.in-Ok.ensures.history (c.note.ensures.weight ∙ ap W c.pass_on.ensures.weight)
    c.note.ensures.last (c.note.ensures.most ∙ c.pass_on.ensures.most) c.requires.weight legal
    (c.note.ensures.turns
    ∙ put_turn_same changes.begun (turn_row (g.P.Provides.given_reply c.in-Ok.reply) (is_wish (g.P.Provides.plain_ask asked.inner)) (sent parts.challenge) c.args.entry.at)
    (turns_left changes.ended (live_rows turn_life turn_mark_begun c.args.entry.at c.pass_on.new.turns.rows))
    (turns_left (turn_ended (g.P.Provides.given_reply c.in-Ok.reply) (named_in (g.P.Provides.plain_ask asked.inner))) (live_rows turn_life turn_mark_begun c.args.entry.at inside.turns.rows))
    (c.changes_of-changes.ensures.begun ∙ (turn_row_same (option_copied c.given.result) (g.P.Provides.given_reply c.in-Ok.reply) pending.wish (is_wish (g.P.Provides.plain_ask asked.inner)) pending.sent (sent parts.challenge) c.args.entry.at
    c.given.ensures c.pending-pending.ensures.wish c.pending-pending.ensures.sent))
    (ap E c.changes_of-changes.ensures.ended ∙ (left_same (option_copied c.given.result) (g.P.Provides.given_reply c.in-Ok.reply) pending.turn (named_in (g.P.Provides.plain_ask asked.inner)) c.args.entry.at c.pass_on.new.turns.rows inside.turns.rows
    c.given.ensures c.pending-pending.ensures.turn c.pass_on.ensures.turns)))
    (c.note.ensures.codes
    ∙ put_code_same changes.made (code_row (g.P.Provides.given_reply c.in-Ok.reply) (answer_mark (outer_plain g.P.Provides.plain_ask) (outer_given g.P.Provides.given_reply) asked_mark None (reverse c.args.self.now.history) c.args.entry.at (sent parts.challenge) (g.P.Provides.plain_ask asked.inner)) c.args.entry.at)
    (live_rows code_life code_mark_begun c.args.entry.at c.pass_on.new.codes.rows) (live_rows code_life code_mark_begun c.args.entry.at inside.codes.rows)
    (c.changes_of-changes.ensures.made ∙ (code_row_same (option_copied c.given.result) (g.P.Provides.given_reply c.in-Ok.reply) pending.answer (answer_mark (outer_plain g.P.Provides.plain_ask) (outer_given g.P.Provides.given_reply) asked_mark None (reverse c.args.self.now.history) c.args.entry.at (sent parts.challenge) (g.P.Provides.plain_ask asked.inner)) c.args.entry.at
    c.given.ensures c.pending-pending.ensures.answer))
    (live_codes_same c.args.entry.at c.pass_on.new.codes.rows inside.codes.rows c.pass_on.ensures.codes)))

pub returns-clause-history : goal.returns-clause-history
returns-clause-history g c =
    let inside = c.self.inside in
    let asked = c.args.entry.ask in
    let parts : PkceParts = record { challenge = asked.challenge; verifier = asked.verifier } in
    let K = λ (l : List (KeptEntry g.row.P-Ask.Denot)). l ++ kept.Passed parts ∷ [] in
    passed_history g.P.Provides.plain_ask g.P.Provides.given_reply g.P.Provides.IsAsk g.P.Core.weighs g.P.Core.most g.P.Core.is_legal (g.P.Core.setup inside.inner) (g.P.Core.history inside.inner)
    inside.kept.kept inside.kept.weight inside.kept.last inside.kept.most inside.turns.rows inside.codes.rows c.self.invariant c.args.self.now.history (ap (λ x. x.history) c.self.view_is)
    c.args.entry.at c.args.entry.fresh parts asked.inner c.in-Ok.reply c.note.new.kept.kept (g.P.Core.history c.pass_on.new.inner) c.requires.order (c.note.ensures.kept ∙ ap K c.pass_on.ensures.kept) c.in-Ok.ensures.history

pub returns-clause-legal : goal.returns-clause-legal
returns-clause-legal g c = (invariant_of-self-2 g c).legal
