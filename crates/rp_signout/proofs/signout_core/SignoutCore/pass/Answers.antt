use Rattle.std.proofs.Common.{◌≡◌, ◌≤◌, ◌+◌, ◌++◌, ◌∷◌, [], ap, sym, subst, ◌∙◌, List, Option, None, Err, ℕ, reverse}
use Rattle.sso_base.specs.Words.{Word}
use Rattle.sso_base.specs.Rows.{put, live_rows}
use Rattle.sso_base.specs.Legal.{IsEntry}
use Rattle.sso_base.specs.Weights.{empty_weight}
use Rattle.sso_base.specs.Journal.{history_weight}
use Rattle.sso_base.specs.declared.step.CoreNo.TheVariants as no
use Rattle.sso_base.proofs.Refusals.{one_error}
use Rattle.core_stack.specs.declared.kept.Kept.TheVariants as kept
use Rattle.signout_answer.specs.declared.asks.EndAsk.{EndAsk}
use Rattle.signout_answer.specs.declared.asks.EndReply.{EndReply}
use Rattle.signout_answer.specs.declared.asks.EndSetup.{EndSetup}
use Rattle.signout_answer.specs.declared.questions.QuestionRow.{QuestionRow}
use Rattle.oidc_words.specs.Lives.{question_life}
use Rattle.signout_answer.specs.Questions.{question_name, question_begun}
use Rattle.signout_answer.specs.Around.{IsEndAsk, ask_around, end_weight}
use Rattle.signout_answer.specs.Answering.{doing}
use Rattle.signout_answer.proofs.Inside.{least_outer}
use Rattle.rp_signout.specs.Keeps.{KeptEntry, Keeps, rows_left, passing, parts_doing, parts_ended}
use Rattle.rp_signout.proofs.Committing.{has_room, inner_has_room, passed_history, passed_keeps}
use Rattle.rp_signout.proofs.signout_core.SignoutCore.pass.Goals as goal

pub returns-in-Err-clause-room : goal.returns-in-Err-clause-room
returns-in-Err-clause-room g c w full =
    let inside = c.self.inside in
    let same : c.pass_on.result ≡ Err (no.JournalFull w) = c.in-Err.is ∙ ap Err (one_error c.in-Err.no (no.JournalFull w) full) in
    let e = c.pass_on.ensures.full w same in
    let R = λ (x : g.P.Core.Setup). history_weight (end_weight g.P.Core.weighs) c.args.self.now.history + c.args.weight ≤ g.P.Core.most x in
    let room = subst R (sym (ap (λ x. g.P.Core.setup x.inner) c.self.view_is)) c.requires.room in
    let A = λ (a : EndAsk g.row.P-Ask.Denot). c.args.weight ≡ end_weight g.P.Core.weighs a in
    inner_has_room g.P.Provides.plain_ask g.P.Provides.IsAsk g.P.Core.weighs g.P.Core.most g.P.Core.is_legal (record { own = inside.setup; inner = g.P.Core.setup inside.inner }) (g.P.Core.history inside.inner)
    inside.kept.kept inside.kept.weight inside.kept.last inside.kept.most inside.questions.rows c.self.invariant c.args.self.now.history (ap (λ x. x.history) c.self.view_is)
    c.split-split.result.parts c.split-split.result.inner c.args.weight room (subst A c.split-split.ensures.ask c.requires.weight) w e.0 e.1

pub push-requires-clause-least : goal.push-requires-clause-least
push-requires-clause-least g c =
    let L = λ (n : ℕ). empty_weight ≤ n in
    subst L (sym c.requires.weight) (least_outer g.P.Core.weighs (λ asked. g.met.P.Core.least_weight asked) c.args.entry.ask)

pub push-requires-clause-room : goal.push-requires-clause-room
push-requires-clause-room g c =
    let inside = c.self.inside in
    let W = λ (n : ℕ). n + c.args.weight ≤ c.pass_on.new.kept.most in
    let M = λ (n : ℕ). inside.kept.weight + c.args.weight ≤ n in
    let R = λ (x : g.P.Core.Setup). history_weight (end_weight g.P.Core.weighs) c.args.self.now.history + c.args.weight ≤ g.P.Core.most x in
    let room = subst R (sym (ap (λ x. g.P.Core.setup x.inner) c.self.view_is)) c.requires.room in
    subst W (sym c.pass_on.ensures.weight) (subst M (sym c.pass_on.ensures.most)
    (has_room g.P.Provides.plain_ask g.P.Provides.IsAsk g.P.Core.weighs g.P.Core.most g.P.Core.is_legal (record { own = inside.setup; inner = g.P.Core.setup inside.inner }) (g.P.Core.history inside.inner)
    inside.kept.kept inside.kept.weight inside.kept.last inside.kept.most inside.questions.rows c.self.invariant c.args.self.now.history (ap (λ x. x.history) c.self.view_is) c.args.weight room))

pub invariant_of-self-2 : goal.invariant_of-self-2
invariant_of-self-2 g c =
    let inside = c.self.inside in
    let parts = c.split-split.result.parts in
    let asked = c.split-split.result.inner in
    let at = c.args.entry.at in
    let set : inside.setup ≡ c.args.self.now.setup = ap (λ x. x.setup) c.self.view_is in
    let R = λ (x : g.P.Core.Setup). history_weight (end_weight g.P.Core.weighs) c.args.self.now.history + c.args.weight ≤ g.P.Core.most x in
    let room = subst R (sym (ap (λ x. g.P.Core.setup x.inner) c.self.view_is)) c.requires.room in
    let A = λ (a : EndAsk g.row.P-Ask.Denot). c.args.weight ≡ end_weight g.P.Core.weighs a in
    let V = λ (a : EndAsk g.row.P-Ask.Denot). IsEntry (IsEndAsk g.P.Provides.IsAsk) (record { at = at; fresh = c.args.entry.fresh; ask = a }) in
    let D = λ (a : EndAsk g.row.P-Ask.Denot). doing inside.setup g.P.Provides.plain_ask (reverse c.args.self.now.history) at c.args.entry.fresh a ≡ parts_doing parts in
    let F = λ (e : EndSetup). doing e g.P.Provides.plain_ask (reverse c.args.self.now.history) at c.args.entry.fresh c.args.entry.ask ≡ passing c.args.back c.args.entry.ask in
    let I = λ (t : g.P.Core.Setup). g.P.Core.is_legal t (g.P.Core.history c.pass_on.new.inner) in
    let S =
    λ (t : g.P.Core.Setup).
    Keeps g.P.Provides.plain_ask g.P.Provides.IsAsk g.P.Core.weighs g.P.Core.most g.P.Core.is_legal (record { own = inside.setup; inner = t }) (g.P.Core.history c.pass_on.new.inner)
    c.push.new.self.kept c.push.new.self.weight c.push.new.self.last c.push.new.self.most c.keep_questions.new.questions.rows in
    let K = λ (l : List (KeptEntry g.row.P-Ask.Denot)). l ++ kept.Passed parts ∷ [] in
    let W = λ (n : ℕ). n + c.args.weight in
    let E = λ (o : Option Word). put question_name None (rows_left o (live_rows question_life question_begun at c.pass_on.new.questions.rows)) in
    let L = λ (l : List QuestionRow). put question_name None (rows_left (parts_ended parts) (live_rows question_life question_begun at l)) in
    subst S (sym c.pass_on.ensures.setup)
    (passed_keeps g.P.Provides.plain_ask g.P.Provides.IsAsk g.P.Core.weighs g.P.Core.most g.P.Core.is_legal (record { own = inside.setup; inner = g.P.Core.setup inside.inner }) (g.P.Core.history inside.inner)
    inside.kept.kept inside.kept.weight inside.kept.last inside.kept.most inside.questions.rows c.self.invariant c.args.self.now.history (ap (λ x. x.history) c.self.view_is)
    at c.args.entry.fresh parts asked c.in-Ok.ensures.history.0 c.push.new.self.kept (g.P.Core.history c.pass_on.new.inner) c.push.new.self.weight c.push.new.self.last c.push.new.self.most c.args.weight
    c.keep_questions.new.questions.rows c.requires.order (c.push.ensures.kept ∙ ap K c.pass_on.ensures.kept) c.in-Ok.ensures.history.2 (c.push.ensures.weight ∙ ap W c.pass_on.ensures.weight)
    c.push.ensures.last (c.push.ensures.most ∙ c.pass_on.ensures.most)
    (subst D c.split-split.ensures.ask (subst F (sym set) c.requires.done ∙ c.split-split.ensures.doing)) (subst V c.split-split.ensures.ask c.requires.values)
    (subst A c.split-split.ensures.ask c.requires.weight) room (subst I c.pass_on.ensures.setup c.in-Ok.ensures.legal)
    (c.keep_questions.ensures ∙ ap E c.parts_ended-ended.ensures ∙ ap L c.pass_on.ensures.questions))

pub returns-clause-history : goal.returns-clause-history
returns-clause-history g c =
    let inside = c.self.inside in
    let parts = c.split-split.result.parts in
    let asked = c.split-split.result.inner in
    let K = λ (l : List (KeptEntry g.row.P-Ask.Denot)). l ++ kept.Passed parts ∷ [] in
    let T = λ (r : EndReply g.row.P-Reply.Denot). c.args.self.now.history ++ (record { entry = record { at = c.args.entry.at; fresh = c.args.entry.fresh; ask = ask_around parts asked }; reply = r }) ∷ [] in
    let A = λ (a : EndAsk g.row.P-Ask.Denot). c.args.self.now.history ++ (record { entry = record { at = c.args.entry.at; fresh = c.args.entry.fresh; ask = a }; reply = c.in-Ok.told }) ∷ [] in
    passed_history g.P.Provides.plain_ask g.P.Provides.IsAsk g.P.Core.weighs g.P.Core.most g.P.Core.is_legal (record { own = inside.setup; inner = g.P.Core.setup inside.inner }) (g.P.Core.history inside.inner)
    inside.kept.kept inside.kept.weight inside.kept.last inside.kept.most inside.questions.rows c.self.invariant c.args.self.now.history (ap (λ x. x.history) c.self.view_is)
    c.args.entry.at c.args.entry.fresh parts asked c.in-Ok.ensures.history.0 c.push.new.self.kept (g.P.Core.history c.pass_on.new.inner) c.requires.order
    (c.push.ensures.kept ∙ ap K c.pass_on.ensures.kept) c.in-Ok.ensures.history.2
    ∙ ap T (sym c.in-Ok.ensures.history.1) ∙ ap A (sym c.split-split.ensures.ask)

pub returns-clause-legal : goal.returns-clause-legal
returns-clause-legal g c = (invariant_of-self-2 g c).legal
