use Rattle.std.proofs.Common.{◌≡◌, ◌≤◌, ◌+◌, ◌++◌, ◌∷◌, [], ap, sym, subst, ◌∙◌, ◌&&◌, not, filter, false, refl, List, Option, None, Err, ℕ, reverse}
use Rattle.std.specs.List.{list_all}
use Rattle.std.specs.Option.{option_copied}
use Rattle.sso_base.specs.Words.{Word}
use Rattle.sso_base.specs.Rows.{put, live_rows}
use Rattle.sso_base.specs.Weights.{empty_weight}
use Rattle.sso_base.specs.Journal.{history_weight}
use Rattle.sso_base.specs.declared.step.CoreNo.TheVariants as no
use Rattle.sso_base.proofs.Refusals.{one_error}
use Rattle.client_registry.specs.Configuration.{Configuration}
use Rattle.oidc_words.specs.Lives.{turn_life, code_life}
use Rattle.op_exchange.specs.declared.reply.OpReply.{OpReply}
use Rattle.core_stack.specs.declared.kept.Kept.TheVariants as kept
use Rattle.core_stack.specs.Rows.{turn_mark_begun, code_mark_begun}
use Rattle.core_stack.specs.Marks.{is_wish, turn_row, named_in, turn_ended, turns_left, code_row, answer_mark}
use Rattle.core_stack.proofs.Same.{turn_row_same, code_row_same, left_same, live_codes_same, put_turn_same, put_code_same}
use Rattle.refresh_answer.specs.declared.asks.RefreshAsk.TheVariants as ask
use Rattle.refresh_answer.specs.declared.asks.RefreshParts.{RefreshParts}
use Rattle.refresh_answer.specs.declared.asks.RefreshReply.{RefreshReply}
use Rattle.refresh_answer.specs.declared.rows.FamilyRow.{FamilyRow}
use Rattle.refresh_answer.specs.Rows.{token_name}
use Rattle.refresh_answer.specs.Around.{reply_around, outer_plain, outer_given, outer_weight, offline_mark}
use Rattle.refresh_answer.specs.Families.{token_code, if_true, appended, has_room as roomy}
use Rattle.refresh_answer.specs.Answering.{own_reply}
use Rattle.refresh_answer.proofs.Passed.{least_outer}
use Rattle.refresh_book.specs.Keeps.{KeptEntry, is_own_family, Keeps}
use Rattle.refresh_book.specs.Renewing.{tokens_left}
use Rattle.refresh_book.specs.Beginning.{is_spent, gives_tokens, first_of, token_of}
use Rattle.refresh_book.proofs.Owning.{all_filtered, all_appended}
use Rattle.refresh_book.proofs.Passed.{passed_reply, passed_book}
use Rattle.refresh_book.proofs.Committing.{has_room, book_before, turned, may_begin, begun_good, inner_has_room, passed_history, passed_legal, passed_keeps, turn_fits, code_fits}
use Rattle.refresh_book.proofs.refresh_core.RefreshCore.pass_known.Goals as goal

pub returns-in-Err-clause-room : goal.returns-in-Err-clause-room
returns-in-Err-clause-room g c w full =
    let inside = c.self.inside in
    let H = c.args.self.now.history in
    let same : c.pass_on.result ≡ Err (no.JournalFull w) = c.in-Err.is ∙ ap Err (one_error c.in-Err.no (no.JournalFull w) full) in
    let e = c.pass_on.ensures.full w same in
    let O = λ (n : ℕ). history_weight (outer_weight g.P.Core.weighs) H + n ≤ g.P.Core.most (g.P.Core.setup inside.inner) in
    let R = λ (x : g.P.Core.Setup). history_weight (outer_weight g.P.Core.weighs) H + c.args.weight ≤ g.P.Core.most x in
    let room = subst R (sym (ap (λ x. g.P.Core.setup x.inner) c.self.view_is)) c.requires.room in
    inner_has_room g.P.Provides.plain_ask g.P.Provides.given_reply g.P.Provides.provided g.P.Provides.IsAsk g.P.Core.weighs g.P.Core.most g.P.Core.is_legal (record { inner = g.P.Core.setup inside.inner; registry = inside.registry }) (g.P.Core.history inside.inner)
    inside.kept.kept inside.kept.weight inside.kept.last inside.kept.most inside.turns.rows inside.codes.rows inside.book c.self.invariant.1 c.args.self.now.history (ap (λ x. x.history) c.self.view_is)
    (ask.Through c.args.asked c.args.offline) c.args.asked c.args.offline refl (subst O c.requires.weight room) w e.0 e.1

pub turn_to-requires-clause-order : goal.turn_to-requires-clause-order
turn_to-requires-clause-order g c =
    let inside = c.self.inside in
    book_before g.P.Provides.plain_ask g.P.Provides.given_reply g.P.Provides.provided g.P.Provides.IsAsk g.P.Core.weighs g.P.Core.most g.P.Core.is_legal (record { inner = g.P.Core.setup inside.inner; registry = inside.registry }) (g.P.Core.history inside.inner)
    inside.kept.kept inside.kept.weight inside.kept.last inside.kept.most inside.turns.rows inside.codes.rows inside.book c.self.invariant.1 c.args.self.now.history (ap (λ x. x.history) c.self.view_is)
    c.args.at c.requires.order c.pass_on.new.book c.pass_on.ensures.book_last

pub note_passed-first-requires-clause-may : goal.note_passed-first-requires-clause-may
note_passed-first-requires-clause-may g c =
    let inside = c.self.inside in
    let book = c.turn_to.new.self in
    let now = turned g.P.Provides.plain_ask g.P.Provides.given_reply g.P.Provides.provided g.P.Provides.IsAsk g.P.Core.weighs g.P.Core.most g.P.Core.is_legal (record { inner = g.P.Core.setup inside.inner; registry = inside.registry }) (g.P.Core.history inside.inner)
    inside.kept.kept inside.kept.weight inside.kept.last inside.kept.most inside.turns.rows inside.codes.rows inside.book c.self.invariant.1 c.args.self.now.history (ap (λ x. x.history) c.self.view_is)
    c.args.at c.requires.order c.pass_on.new.book book c.pass_on.ensures.families c.pass_on.ensures.tokens c.pass_on.ensures.accesses
    c.turn_to.ensures.families c.turn_to.ensures.tokens c.turn_to.ensures.accesses c.turn_to.ensures.last in
    may_begin g.P.Provides.plain_ask g.P.Provides.given_reply g.P.Provides.provided g.P.Provides.IsAsk g.P.Core.weighs g.P.Core.most g.P.Core.is_legal (record { inner = g.P.Core.setup inside.inner; registry = inside.registry }) (g.P.Core.history inside.inner)
    inside.kept.kept inside.kept.weight inside.kept.last inside.kept.most inside.turns.rows inside.codes.rows inside.book c.self.invariant.1 c.args.self.now.history (ap (λ x. x.history) c.self.view_is)
    c.args.at book now (token_code (g.P.Provides.plain_ask c.args.asked)) c.args.pending.family c.requires.pending.family

pub note-requires-clause-least : goal.note-requires-clause-least
note-requires-clause-least g c =
    let L = λ (n : ℕ). empty_weight ≤ n in
    subst L (sym c.requires.weight) (least_outer g.P.Core.weighs (λ asked. g.met.P.Core.least_weight asked) (ask.Through c.args.asked c.args.offline))

pub note-requires-clause-room : goal.note-requires-clause-room
note-requires-clause-room g c =
    let inside = c.self.inside in
    let H = c.args.self.now.history in
    let W = λ (n : ℕ). n + c.args.weight ≤ c.pass_on.new.kept.most in
    let M = λ (n : ℕ). inside.kept.weight + c.args.weight ≤ n in
    let R = λ (x : g.P.Core.Setup). history_weight (outer_weight g.P.Core.weighs) H + c.args.weight ≤ g.P.Core.most x in
    let room = subst R (sym (ap (λ x. g.P.Core.setup x.inner) c.self.view_is)) c.requires.room in
    subst W (sym c.pass_on.ensures.weight) (subst M (sym c.pass_on.ensures.most)
    (has_room g.P.Provides.plain_ask g.P.Provides.given_reply g.P.Provides.provided g.P.Provides.IsAsk g.P.Core.weighs g.P.Core.most g.P.Core.is_legal (record { inner = g.P.Core.setup inside.inner; registry = inside.registry }) (g.P.Core.history inside.inner)
    inside.kept.kept inside.kept.weight inside.kept.last inside.kept.most inside.turns.rows inside.codes.rows inside.book c.self.invariant.1 c.args.self.now.history (ap (λ x. x.history) c.self.view_is) c.args.weight room))

pub note-requires-clause-turn : goal.note-requires-clause-turn
note-requires-clause-turn g c =
    let inside = c.self.inside in
    let H = c.args.self.now.history in
    let reply = c.in-Ok.reply in
    let a = c.args.asked in
    let pending = c.args.pending in
    let book = c.turn_to.new.self in
    let registry = ap (λ x. x.registry) c.self.view_is in
    let changes = c.changes_of-changes.result in
    let E = λ (o : Option Word). turns_left o (live_rows turn_life turn_mark_begun c.args.at c.pass_on.new.turns.rows) in
    let parts : RefreshParts = record { offline = c.args.offline; first = c.again.result } in
    let R = λ (x : g.P.Core.Setup). history_weight (outer_weight g.P.Core.weighs) H + c.args.weight ≤ g.P.Core.most x in
    let room = subst R (sym (ap (λ x. g.P.Core.setup x.inner) c.self.view_is)) c.requires.room in
    let now = turned g.P.Provides.plain_ask g.P.Provides.given_reply g.P.Provides.provided g.P.Provides.IsAsk g.P.Core.weighs g.P.Core.most g.P.Core.is_legal (record { inner = g.P.Core.setup inside.inner; registry = inside.registry }) (g.P.Core.history inside.inner)
    inside.kept.kept inside.kept.weight inside.kept.last inside.kept.most inside.turns.rows inside.codes.rows inside.book c.self.invariant.1 c.args.self.now.history (ap (λ x. x.history) c.self.view_is)
    c.args.at c.requires.order c.pass_on.new.book book c.pass_on.ensures.families c.pass_on.ensures.tokens c.pass_on.ensures.accesses
    c.turn_to.ensures.families c.turn_to.ensures.tokens c.turn_to.ensures.accesses c.turn_to.ensures.last in
    let begun = λ (o : Option OpReply). if_true (roomy book.tokens c.second-word.result && gives_tokens o) pending.family in
    let FO = λ (o : Option OpReply). first_of (begun o) c.second-word.result in
    let first = c.again.ensures ∙ c.note_passed-first.ensures.first ∙ ap FO c.given-2.ensures in
    let said = passed_reply g.P.Provides.plain_ask g.P.Provides.given_reply g.P.Provides.provided (reverse H) c.args.at book book now.book c.args.fresh a c.args.offline reply pending.spent pending.family c.second-word.result
    c.second-word.ensures c.requires.pending.family c.again.result first in
    let I = λ (t : g.P.Core.Setup). g.P.Core.is_legal t (g.P.Core.history c.pass_on.new.inner) in
    let O = λ (r : Configuration). own_reply g.P.Provides.plain_ask g.P.Provides.given_reply g.P.Provides.provided r (reverse H) c.args.at c.args.fresh (ask.Through a c.args.offline) ≡ None in
    let legal =
    passed_legal g.P.Provides.plain_ask g.P.Provides.given_reply g.P.Provides.provided g.P.Provides.IsAsk g.P.Core.weighs g.P.Core.most g.P.Core.is_legal (record { inner = g.P.Core.setup inside.inner; registry = inside.registry }) (g.P.Core.history inside.inner)
    inside.kept.kept inside.kept.weight inside.kept.last inside.kept.most inside.turns.rows inside.codes.rows inside.book c.self.invariant.1 c.args.self.now.history (ap (λ x. x.history) c.self.view_is)
    c.args.at c.args.fresh parts a reply (g.P.Core.history c.pass_on.new.inner) c.args.weight c.requires.order c.in-Ok.ensures.history (subst O (sym registry) c.requires.passes) said.0 c.requires.values c.requires.weight
    room (subst I c.pass_on.ensures.setup c.in-Ok.ensures.legal) in
    turn_fits g.P.Provides.plain_ask g.P.Provides.given_reply g.P.Provides.provided g.P.Provides.IsAsk g.P.Core.weighs g.P.Core.most g.P.Core.is_legal (record { inner = g.P.Core.setup inside.inner; registry = inside.registry }) (g.P.Core.history inside.inner)
    inside.kept.kept inside.kept.weight inside.kept.last inside.kept.most inside.turns.rows inside.codes.rows inside.book c.self.invariant.1 c.args.self.now.history (ap (λ x. x.history) c.self.view_is)
    c.args.at c.args.fresh parts a reply (λ t front rest l. g.met.P.Core.beginnings_are_legal t front rest l) (g.P.Provides.provider_registry inside.inner)
    (record {
      begins = g.met.P.Provides.begins;
      beginnings = λ front rest l. g.met.P.Core.beginnings_are_legal (g.P.Core.setup inside.inner) front rest l;
      provider = λ l legal. (g.met.P.Provides.is_provider inside.inner l legal).past;
      adds = λ l p legal. g.met.P.Provides.adds_what_it_gives (g.P.Core.setup inside.inner) l p legal;
    })
    changes.begun
    (turns_left changes.ended (live_rows turn_life turn_mark_begun c.args.at c.pass_on.new.turns.rows))
    c.requires.order legal (c.changes_of-changes.ensures.begun ∙ (turn_row_same (option_copied c.given.result) (g.P.Provides.given_reply reply) pending.wish (is_wish (g.P.Provides.plain_ask a)) pending.sent c.args.offline c.args.at
    c.given.ensures c.requires.pending.wish c.requires.pending.sent))
    (ap E c.changes_of-changes.ensures.ended ∙ (left_same (option_copied c.given.result) (g.P.Provides.given_reply reply) pending.turn (named_in (g.P.Provides.plain_ask a)) c.args.at c.pass_on.new.turns.rows inside.turns.rows
    c.given.ensures c.requires.pending.turn c.pass_on.ensures.turns))

pub note-requires-clause-code : goal.note-requires-clause-code
note-requires-clause-code g c =
    let inside = c.self.inside in
    let H = c.args.self.now.history in
    let reply = c.in-Ok.reply in
    let a = c.args.asked in
    let pending = c.args.pending in
    let book = c.turn_to.new.self in
    let registry = ap (λ x. x.registry) c.self.view_is in
    let changes = c.changes_of-changes.result in
    let parts : RefreshParts = record { offline = c.args.offline; first = c.again.result } in
    let R = λ (x : g.P.Core.Setup). history_weight (outer_weight g.P.Core.weighs) H + c.args.weight ≤ g.P.Core.most x in
    let room = subst R (sym (ap (λ x. g.P.Core.setup x.inner) c.self.view_is)) c.requires.room in
    let now = turned g.P.Provides.plain_ask g.P.Provides.given_reply g.P.Provides.provided g.P.Provides.IsAsk g.P.Core.weighs g.P.Core.most g.P.Core.is_legal (record { inner = g.P.Core.setup inside.inner; registry = inside.registry }) (g.P.Core.history inside.inner)
    inside.kept.kept inside.kept.weight inside.kept.last inside.kept.most inside.turns.rows inside.codes.rows inside.book c.self.invariant.1 c.args.self.now.history (ap (λ x. x.history) c.self.view_is)
    c.args.at c.requires.order c.pass_on.new.book book c.pass_on.ensures.families c.pass_on.ensures.tokens c.pass_on.ensures.accesses
    c.turn_to.ensures.families c.turn_to.ensures.tokens c.turn_to.ensures.accesses c.turn_to.ensures.last in
    let begun = λ (o : Option OpReply). if_true (roomy book.tokens c.second-word.result && gives_tokens o) pending.family in
    let FO = λ (o : Option OpReply). first_of (begun o) c.second-word.result in
    let first = c.again.ensures ∙ c.note_passed-first.ensures.first ∙ ap FO c.given-2.ensures in
    let said = passed_reply g.P.Provides.plain_ask g.P.Provides.given_reply g.P.Provides.provided (reverse H) c.args.at book book now.book c.args.fresh a c.args.offline reply pending.spent pending.family c.second-word.result
    c.second-word.ensures c.requires.pending.family c.again.result first in
    let I = λ (t : g.P.Core.Setup). g.P.Core.is_legal t (g.P.Core.history c.pass_on.new.inner) in
    let O = λ (r : Configuration). own_reply g.P.Provides.plain_ask g.P.Provides.given_reply g.P.Provides.provided r (reverse H) c.args.at c.args.fresh (ask.Through a c.args.offline) ≡ None in
    let legal =
    passed_legal g.P.Provides.plain_ask g.P.Provides.given_reply g.P.Provides.provided g.P.Provides.IsAsk g.P.Core.weighs g.P.Core.most g.P.Core.is_legal (record { inner = g.P.Core.setup inside.inner; registry = inside.registry }) (g.P.Core.history inside.inner)
    inside.kept.kept inside.kept.weight inside.kept.last inside.kept.most inside.turns.rows inside.codes.rows inside.book c.self.invariant.1 c.args.self.now.history (ap (λ x. x.history) c.self.view_is)
    c.args.at c.args.fresh parts a reply (g.P.Core.history c.pass_on.new.inner) c.args.weight c.requires.order c.in-Ok.ensures.history (subst O (sym registry) c.requires.passes) said.0 c.requires.values c.requires.weight
    room (subst I c.pass_on.ensures.setup c.in-Ok.ensures.legal) in
    code_fits g.P.Provides.plain_ask g.P.Provides.given_reply g.P.Provides.provided g.P.Provides.IsAsk g.P.Core.weighs g.P.Core.most g.P.Core.is_legal (record { inner = g.P.Core.setup inside.inner; registry = inside.registry }) (g.P.Core.history inside.inner)
    inside.kept.kept inside.kept.weight inside.kept.last inside.kept.most inside.turns.rows inside.codes.rows inside.book c.self.invariant.1 c.args.self.now.history (ap (λ x. x.history) c.self.view_is)
    c.args.at c.args.fresh parts a reply (λ t front rest l. g.met.P.Core.beginnings_are_legal t front rest l) (g.P.Provides.provider_registry inside.inner)
    (record {
      begins = g.met.P.Provides.begins;
      beginnings = λ front rest l. g.met.P.Core.beginnings_are_legal (g.P.Core.setup inside.inner) front rest l;
      provider = λ l legal. (g.met.P.Provides.is_provider inside.inner l legal).past;
      adds = λ l p legal. g.met.P.Provides.adds_what_it_gives (g.P.Core.setup inside.inner) l p legal;
    })
    changes.made (live_rows code_life code_mark_begun c.args.at c.pass_on.new.codes.rows)
    c.requires.order legal (c.changes_of-changes.ensures.made ∙ (code_row_same (option_copied c.given.result) (g.P.Provides.given_reply reply) pending.answer (answer_mark (outer_plain g.P.Provides.plain_ask) (outer_given g.P.Provides.given_reply) offline_mark false (reverse H) c.args.at c.args.offline (g.P.Provides.plain_ask a)) c.args.at
    c.given.ensures c.requires.pending.answer))
    (live_codes_same c.args.at c.pass_on.new.codes.rows inside.codes.rows c.pass_on.ensures.codes)

pub invariant_of-self-2 : goal.invariant_of-self-2
invariant_of-self-2 g c =
    let inside = c.self.inside in
    let H = c.args.self.now.history in
    let reply = c.in-Ok.reply in
    let a = c.args.asked in
    let pending = c.args.pending in
    let book = c.turn_to.new.self in
    let registry = ap (λ x. x.registry) c.self.view_is in
    let changes = c.changes_of-changes.result in
    let E = λ (o : Option Word). turns_left o (live_rows turn_life turn_mark_begun c.args.at c.pass_on.new.turns.rows) in
    let parts : RefreshParts = record { offline = c.args.offline; first = c.again.result } in
    let R = λ (x : g.P.Core.Setup). history_weight (outer_weight g.P.Core.weighs) H + c.args.weight ≤ g.P.Core.most x in
    let room = subst R (sym (ap (λ x. g.P.Core.setup x.inner) c.self.view_is)) c.requires.room in
    let now = turned g.P.Provides.plain_ask g.P.Provides.given_reply g.P.Provides.provided g.P.Provides.IsAsk g.P.Core.weighs g.P.Core.most g.P.Core.is_legal (record { inner = g.P.Core.setup inside.inner; registry = inside.registry }) (g.P.Core.history inside.inner)
    inside.kept.kept inside.kept.weight inside.kept.last inside.kept.most inside.turns.rows inside.codes.rows inside.book c.self.invariant.1 c.args.self.now.history (ap (λ x. x.history) c.self.view_is)
    c.args.at c.requires.order c.pass_on.new.book book c.pass_on.ensures.families c.pass_on.ensures.tokens c.pass_on.ensures.accesses
    c.turn_to.ensures.families c.turn_to.ensures.tokens c.turn_to.ensures.accesses c.turn_to.ensures.last in
    let begun = λ (o : Option OpReply). if_true (roomy book.tokens c.second-word.result && gives_tokens o) pending.family in
    let FO = λ (o : Option OpReply). first_of (begun o) c.second-word.result in
    let first = c.again.ensures ∙ c.note_passed-first.ensures.first ∙ ap FO c.given-2.ensures in
    let said = passed_reply g.P.Provides.plain_ask g.P.Provides.given_reply g.P.Provides.provided (reverse H) c.args.at book book now.book c.args.fresh a c.args.offline reply pending.spent pending.family c.second-word.result
    c.second-word.ensures c.requires.pending.family c.again.result first in
    let I = λ (t : g.P.Core.Setup). g.P.Core.is_legal t (g.P.Core.history c.pass_on.new.inner) in
    let O = λ (r : Configuration). own_reply g.P.Provides.plain_ask g.P.Provides.given_reply g.P.Provides.provided r (reverse H) c.args.at c.args.fresh (ask.Through a c.args.offline) ≡ None in
    let legal =
    passed_legal g.P.Provides.plain_ask g.P.Provides.given_reply g.P.Provides.provided g.P.Provides.IsAsk g.P.Core.weighs g.P.Core.most g.P.Core.is_legal (record { inner = g.P.Core.setup inside.inner; registry = inside.registry }) (g.P.Core.history inside.inner)
    inside.kept.kept inside.kept.weight inside.kept.last inside.kept.most inside.turns.rows inside.codes.rows inside.book c.self.invariant.1 c.args.self.now.history (ap (λ x. x.history) c.self.view_is)
    c.args.at c.args.fresh parts a reply (g.P.Core.history c.pass_on.new.inner) c.args.weight c.requires.order c.in-Ok.ensures.history (subst O (sym registry) c.requires.passes) said.0 c.requires.values c.requires.weight
    room (subst I c.pass_on.ensures.setup c.in-Ok.ensures.legal) in
    let d = c.note_passed-first.new.book in
    let left = filter (λ (f : FamilyRow). not (is_spent pending.spent f)) book.families in
    let FA = λ (o : Option OpReply). appended left (begun o) in
    let TO = λ (o : Option OpReply). put token_name (token_of (begun o) c.second-word.result) (tokens_left left book.tokens) in
    let families_are = c.note_passed-first.ensures.families ∙ ap FA c.given-2.ensures in
    let now_book = passed_book g.P.Provides.plain_ask g.P.Provides.given_reply g.P.Provides.provided (reverse H) c.args.at book d now.book c.args.fresh a c.args.offline reply pending.spent pending.family c.second-word.result
    c.second-word.ensures c.requires.pending.family c.again.result first c.requires.pending.spent families_are (c.note_passed-first.ensures.tokens ∙ ap TO c.given-2.ensures)
    c.note_passed-first.ensures.accesses c.note_passed-first.ensures.last in
    let GO = λ (r : Configuration) (f : FamilyRow). is_own_family r f in
    let AL = λ (l : List FamilyRow). list_all (GO inside.registry) l in
    let good = ap AL families_are
    ∙ all_appended (GO inside.registry) left (begun (g.P.Provides.given_reply reply)) (all_filtered (GO inside.registry) (λ f. not (is_spent pending.spent f)) book.families now.own)
    (begun_good (GO inside.registry) (roomy book.tokens c.second-word.result && gives_tokens (g.P.Provides.given_reply reply)) pending.family
    (λ f is. (let X = λ (r : Configuration). GO r f in ap X registry ∙ c.requires.pending.own f is))) in
    let S =
    λ (t : g.P.Core.Setup).
    Keeps g.P.Provides.plain_ask g.P.Provides.given_reply g.P.Provides.provided g.P.Provides.IsAsk g.P.Core.weighs g.P.Core.most g.P.Core.is_legal (record { inner = t; registry = inside.registry }) (g.P.Core.history c.pass_on.new.inner)
    c.note.new.kept.kept c.note.new.kept.weight c.note.new.kept.last c.note.new.kept.most c.note.new.turns.rows c.note.new.codes.rows d in
    let K = λ (l : List (KeptEntry g.row.P-Ask.Denot)). l ++ kept.Passed parts ∷ [] in
    let W = λ (n : ℕ). n + c.args.weight in (
      c.self.invariant.0 ∙ g.met.P.Provides.registry_is inside.inner c.pass_on.new.inner (sym c.pass_on.ensures.setup),
      subst S (sym c.pass_on.ensures.setup)
          (passed_keeps g.P.Provides.plain_ask g.P.Provides.given_reply g.P.Provides.provided g.P.Provides.IsAsk g.P.Core.weighs g.P.Core.most g.P.Core.is_legal (record { inner = g.P.Core.setup inside.inner; registry = inside.registry }) (g.P.Core.history inside.inner)
          inside.kept.kept inside.kept.weight inside.kept.last inside.kept.most inside.turns.rows inside.codes.rows inside.book c.self.invariant.1 c.args.self.now.history (ap (λ x. x.history) c.self.view_is)
          c.args.at c.args.fresh parts a reply c.note.new.kept.kept (g.P.Core.history c.pass_on.new.inner) c.note.new.kept.weight c.note.new.kept.last c.note.new.kept.most c.args.weight
          c.note.new.turns.rows c.note.new.codes.rows d c.requires.order (c.note.ensures.kept ∙ ap K c.pass_on.ensures.kept) c.in-Ok.ensures.history (c.note.ensures.weight ∙ ap W c.pass_on.ensures.weight)
          c.note.ensures.last (c.note.ensures.most ∙ c.pass_on.ensures.most) c.requires.weight legal
          (c.note.ensures.turns
          ∙ put_turn_same changes.begun (turn_row (g.P.Provides.given_reply reply) (is_wish (g.P.Provides.plain_ask a)) c.args.offline c.args.at)
          (turns_left changes.ended (live_rows turn_life turn_mark_begun c.args.at c.pass_on.new.turns.rows))
          (turns_left (turn_ended (g.P.Provides.given_reply reply) (named_in (g.P.Provides.plain_ask a))) (live_rows turn_life turn_mark_begun c.args.at inside.turns.rows))
          (c.changes_of-changes.ensures.begun ∙ (turn_row_same (option_copied c.given.result) (g.P.Provides.given_reply reply) pending.wish (is_wish (g.P.Provides.plain_ask a)) pending.sent c.args.offline c.args.at
          c.given.ensures c.requires.pending.wish c.requires.pending.sent))
          (ap E c.changes_of-changes.ensures.ended ∙ (left_same (option_copied c.given.result) (g.P.Provides.given_reply reply) pending.turn (named_in (g.P.Provides.plain_ask a)) c.args.at c.pass_on.new.turns.rows inside.turns.rows
          c.given.ensures c.requires.pending.turn c.pass_on.ensures.turns)))
          (c.note.ensures.codes
          ∙ put_code_same changes.made (code_row (g.P.Provides.given_reply reply) (answer_mark (outer_plain g.P.Provides.plain_ask) (outer_given g.P.Provides.given_reply) offline_mark false (reverse H) c.args.at c.args.offline (g.P.Provides.plain_ask a)) c.args.at)
          (live_rows code_life code_mark_begun c.args.at c.pass_on.new.codes.rows) (live_rows code_life code_mark_begun c.args.at inside.codes.rows)
          (c.changes_of-changes.ensures.made ∙ (code_row_same (option_copied c.given.result) (g.P.Provides.given_reply reply) pending.answer (answer_mark (outer_plain g.P.Provides.plain_ask) (outer_given g.P.Provides.given_reply) offline_mark false (reverse H) c.args.at c.args.offline (g.P.Provides.plain_ask a)) c.args.at
          c.given.ensures c.requires.pending.answer))
          (live_codes_same c.args.at c.pass_on.new.codes.rows inside.codes.rows c.pass_on.ensures.codes))
          now_book good),
    )

pub returns-clause-history : goal.returns-clause-history
returns-clause-history g c =
    let inside = c.self.inside in
    let H = c.args.self.now.history in
    let reply = c.in-Ok.reply in
    let a = c.args.asked in
    let pending = c.args.pending in
    let book = c.turn_to.new.self in
    let registry = ap (λ x. x.registry) c.self.view_is in
    let parts : RefreshParts = record { offline = c.args.offline; first = c.again.result } in
    let K = λ (l : List (KeptEntry g.row.P-Ask.Denot)). l ++ kept.Passed parts ∷ [] in
    let X = λ (r : RefreshReply g.row.P-Reply.Denot). H ++ (record { entry = record { at = c.args.at; fresh = c.args.fresh; ask = ask.Through a c.args.offline }; reply = r }) ∷ [] in
    let F = λ (o : Option Word). reply_around reply o in
    passed_history g.P.Provides.plain_ask g.P.Provides.given_reply g.P.Provides.provided g.P.Provides.IsAsk g.P.Core.weighs g.P.Core.most g.P.Core.is_legal (record { inner = g.P.Core.setup inside.inner; registry = inside.registry }) (g.P.Core.history inside.inner)
    inside.kept.kept inside.kept.weight inside.kept.last inside.kept.most inside.turns.rows inside.codes.rows inside.book c.self.invariant.1 c.args.self.now.history (ap (λ x. x.history) c.self.view_is)
    c.args.at c.args.fresh parts a reply c.note.new.kept.kept (g.P.Core.history c.pass_on.new.inner) c.requires.order (c.note.ensures.kept ∙ ap K c.pass_on.ensures.kept) c.in-Ok.ensures.history
    ∙ ap X (ap F c.again.ensures ∙ sym c.reply_around.ensures)

pub returns-clause-legal : goal.returns-clause-legal
returns-clause-legal g c = (invariant_of-self-2 g c).1.legal
