use Rattle.std.proofs.Common.{◌≡◌, ◌≤◌, ◌+◌, ◌++◌, ◌∷◌, [], ap, sym, subst, ◌∙◌, List, Option, ℕ, reverse}
use Rattle.sso_base.specs.Words.{Word}
use Rattle.sso_base.specs.Rows.{put, live_rows}
use Rattle.sso_base.specs.Weights.{empty_weight}
use Rattle.sso_base.specs.Journal.{history_weight}
use Rattle.core_stack.specs.declared.kept.Kept.TheVariants as kept
use Rattle.core_stack.proofs.MarksHeld.{may_through}
use Rattle.signout_answer.specs.declared.asks.EndSetup.{EndSetup}
use Rattle.signout_answer.specs.declared.parts.Doing.TheVariants as does
use Rattle.signout_answer.specs.declared.questions.QuestionRow.{QuestionRow}
use Rattle.oidc_words.specs.Lives.{question_life}
use Rattle.signout_answer.specs.Questions.{question_name, question_begun}
use Rattle.signout_answer.specs.Around.{end_weight}
use Rattle.signout_answer.specs.Answering.{doing, SignoutSetup}
use Rattle.signout_answer.proofs.Inside.{least_outer}
use Rattle.rp_signout.specs.Keeps.{KeptEntry, rows_left, own_ended, own_made}
use Rattle.rp_signout.proofs.Looking.{not_ahead, held_now}
use Rattle.rp_signout.proofs.Asking.{question_may}
use Rattle.rp_signout.proofs.Committing.{has_room, own_history, own_keeps}
use Rattle.rp_signout.proofs.signout_core.SignoutCore.answer_own.Goals as goal

pub keep_questions-requires-clause-may : goal.keep_questions-requires-clause-may
keep_questions-requires-clause-may g c =
    let inside = c.self.inside in
    let s : SignoutSetup g.P.Core.Setup = record { own = inside.setup; inner = g.P.Core.setup inside.inner } in
    let set : inside.setup ≡ c.args.self.now.setup = ap (λ x. x.setup) c.self.view_is in
    let D = λ (e : EndSetup). doing e g.P.Provides.plain_ask (reverse c.args.self.now.history) c.args.entry.at c.args.entry.fresh c.args.entry.ask ≡ does.Own c.args.own in
    let M = λ (e : EndSetup). c.args.made ≡ own_made e c.args.entry.ask c.args.own c.args.entry.at in
    let L = λ (l : List QuestionRow). rows_left c.own_ended-ended.result (live_rows question_life question_begun c.args.entry.at l) in
    may_through question_name question_begun c.args.made (rows_left c.own_ended-ended.result (live_rows question_life question_begun c.args.entry.at inside.questions.rows))
    (rows_left c.own_ended-ended.result (live_rows question_life question_begun c.args.entry.at c.prepared.new.questions.rows)) (ap L c.prepared.ensures.questions)
    (question_may inside.setup g.P.Provides.plain_ask (reverse c.args.self.now.history) c.args.entry.at c.args.entry.fresh c.args.entry.ask c.args.own c.args.made inside.kept.last inside.questions.rows
    (subst D (sym set) c.requires.done) (subst M (sym set) c.requires.made)
    (not_ahead g.P.Provides.plain_ask g.P.Provides.IsAsk g.P.Core.weighs g.P.Core.most g.P.Core.is_legal s (g.P.Core.history inside.inner) inside.kept.kept inside.kept.weight inside.kept.last inside.kept.most
    inside.questions.rows c.self.invariant c.args.self.now.history (ap (λ x. x.history) c.self.view_is) c.args.entry.at c.requires.order)
    (held_now g.P.Provides.plain_ask g.P.Provides.IsAsk g.P.Core.weighs g.P.Core.most g.P.Core.is_legal s (g.P.Core.history inside.inner) inside.kept.kept inside.kept.weight inside.kept.last inside.kept.most
    inside.questions.rows c.self.invariant c.args.self.now.history (ap (λ x. x.history) c.self.view_is))
    c.own_ended-ended.result)

pub push-requires-clause-least : goal.push-requires-clause-least
push-requires-clause-least g c =
    let L = λ (n : ℕ). empty_weight ≤ n in
    subst L (sym c.requires.weight) (least_outer g.P.Core.weighs (λ asked. g.met.P.Core.least_weight asked) c.args.entry.ask)

pub push-requires-clause-room : goal.push-requires-clause-room
push-requires-clause-room g c =
    let inside = c.self.inside in
    let W = λ (n : ℕ). n + c.args.weight ≤ c.prepared.new.kept.most in
    let M = λ (n : ℕ). inside.kept.weight + c.args.weight ≤ n in
    let R = λ (x : g.P.Core.Setup). history_weight (end_weight g.P.Core.weighs) c.args.self.now.history + c.args.weight ≤ g.P.Core.most x in
    let room = subst R (sym (ap (λ x. g.P.Core.setup x.inner) c.self.view_is)) c.requires.room in
    subst W (sym c.prepared.ensures.weight) (subst M (sym c.prepared.ensures.most)
    (has_room g.P.Provides.plain_ask g.P.Provides.IsAsk g.P.Core.weighs g.P.Core.most g.P.Core.is_legal (record { own = inside.setup; inner = g.P.Core.setup inside.inner }) (g.P.Core.history inside.inner)
    inside.kept.kept inside.kept.weight inside.kept.last inside.kept.most inside.questions.rows c.self.invariant c.args.self.now.history (ap (λ x. x.history) c.self.view_is) c.args.weight room))

pub invariant_of-self-2 : goal.invariant_of-self-2
invariant_of-self-2 g c =
    let inside = c.self.inside in
    let set : inside.setup ≡ c.args.self.now.setup = ap (λ x. x.setup) c.self.view_is in
    let D = λ (e : EndSetup). doing e g.P.Provides.plain_ask (reverse c.args.self.now.history) c.args.entry.at c.args.entry.fresh c.args.entry.ask ≡ does.Own c.args.own in
    let N = λ (e : EndSetup). c.args.made ≡ own_made e c.args.entry.ask c.args.own c.args.entry.at in
    let made : c.args.made ≡ own_made inside.setup c.args.entry.ask c.args.own c.args.entry.at = subst N (sym set) c.requires.made in
    let K = λ (l : List (KeptEntry g.row.P-Ask.Denot)). l ++ kept.Own (record { entry = c.args.entry; reply = c.args.own }) ∷ [] in
    let W = λ (n : ℕ). n + c.args.weight in
    let R = λ (x : g.P.Core.Setup). history_weight (end_weight g.P.Core.weighs) c.args.self.now.history + c.args.weight ≤ g.P.Core.most x in
    let room = subst R (sym (ap (λ x. g.P.Core.setup x.inner) c.self.view_is)) c.requires.room in
    let E = λ (o : Option Word). put question_name c.args.made (rows_left o (live_rows question_life question_begun c.args.entry.at c.prepared.new.questions.rows)) in
    let L = λ (l : List QuestionRow). put question_name c.args.made (rows_left (own_ended c.args.entry.ask c.args.own) (live_rows question_life question_begun c.args.entry.at l)) in
    let M = λ (o : Option QuestionRow). put question_name o (rows_left (own_ended c.args.entry.ask c.args.own) (live_rows question_life question_begun c.args.entry.at inside.questions.rows)) in
    own_keeps g.P.Provides.plain_ask g.P.Provides.IsAsk g.P.Core.weighs g.P.Core.most g.P.Core.is_legal (record { own = inside.setup; inner = g.P.Core.setup inside.inner }) (g.P.Core.history inside.inner)
    inside.kept.kept inside.kept.weight inside.kept.last inside.kept.most inside.questions.rows c.self.invariant c.args.self.now.history (ap (λ x. x.history) c.self.view_is)
    (record { entry = c.args.entry; reply = c.args.own }) c.push.new.self.kept c.push.new.self.weight c.push.new.self.last c.push.new.self.most c.args.weight c.keep_questions.new.questions.rows
    (c.push.ensures.kept ∙ ap K c.prepared.ensures.kept) (c.push.ensures.weight ∙ ap W c.prepared.ensures.weight) c.push.ensures.last (c.push.ensures.most ∙ c.prepared.ensures.most)
    (subst D (sym set) c.requires.done) c.requires.order c.requires.values c.requires.weight room
    (c.keep_questions.ensures ∙ ap E c.own_ended-ended.ensures ∙ ap L c.prepared.ensures.questions ∙ ap M made)

pub returns-clause-history : goal.returns-clause-history
returns-clause-history g c =
    let inside = c.self.inside in
    let K = λ (l : List (KeptEntry g.row.P-Ask.Denot)). l ++ kept.Own (record { entry = c.args.entry; reply = c.args.own }) ∷ [] in
    own_history g.P.Provides.plain_ask g.P.Provides.IsAsk g.P.Core.weighs g.P.Core.most g.P.Core.is_legal (record { own = inside.setup; inner = g.P.Core.setup inside.inner }) (g.P.Core.history inside.inner)
    inside.kept.kept inside.kept.weight inside.kept.last inside.kept.most inside.questions.rows c.self.invariant c.args.self.now.history (ap (λ x. x.history) c.self.view_is)
    (record { entry = c.args.entry; reply = c.args.own }) c.push.new.self.kept (c.push.ensures.kept ∙ ap K c.prepared.ensures.kept)

pub returns-clause-legal : goal.returns-clause-legal
returns-clause-legal g c = (invariant_of-self-2 g c).legal
