use Rattle.std.proofs.Common.{◌≡◌, ℕ, suc, ◌+◌, ◌≤◌, ◌++◌, List, length, reverse, take, IfOk, sym, ap, ◌∙◌, subst, arith}
use Rattle.std.specs.Prelude.{string_bytes}
use Rattle.sso_base.specs.Words.{Text}
use Rattle.client_registry.specs.Configuration.{Configuration}
use Rattle.trace_lines.specs.declared.line.Line.{Line}
use Rattle.trace_lines.specs.Order.{AreInOrder}
use Rattle.oidc_replay.specs.Play.{played_of, play_on, play_lines}
use Rattle.oidc_replay.specs.Sending.{NamesRole}
use Rattle.oidc_replay.specs.declared.replaying.ReplayEnd.{ReplayEnd}
use Rattle.oidc_replay.specs.Text.{line_told, lines_told}
use Rattle.oidc_replay.proofs.InOrder.{line_names}
use Rattle.oidc_replay.proofs.PlayLaws.{play_next, text_next, places_few, all_played, end_is, text_is, plays_well, always}
use Rattle.oidc_replay.proofs.replaying.replay_all.Goals as goal

pub replay_line-requires-clause-few : goal.replay_line-requires-clause-few
replay_line-requires-clause-few c =
    let lines : length (reverse c.lines-line-items.result.now) ≤ 4194304 = subst (λ (ls : List Line). length ls ≤ 4194304) (sym c.lines-line-items.ensures) c.requires.lines.few in
    let few = places_few c.args.play.now.running.registry c.args.trace.now.seed c.lines-line-items.result.now c.loop-line.line-index 4194304 (played_of c.loop-line.play) lines c.loop-line.invariant.played in
    omega (arith, few)

pub replay_line-requires-clause-role : goal.replay_line-requires-clause-role
replay_line-requires-clause-role c =
    let order : AreInOrder c.args.play.now.running.registry (reverse c.lines-line-items.result.now) = subst (AreInOrder c.args.play.now.running.registry) (sym c.lines-line-items.ensures) c.requires.lines.order in
    subst (λ (d : Configuration). NamesRole d c.line-item.result) (sym c.loop-line.invariant.registry)
    (line_names c.args.play.now.running.registry c.lines-line-items.result.now c.loop-line.line-index c.line-item.result order c.loop-line-test.true c.line-item.is)

pub loop-line-preserved : goal.loop-line-preserved
loop-line-preserved c =
    let told = c.in_ok-replay_line.ensures in
    let was = c.loop-line.invariant in
    let index : ℕ = c.loop-line.line-index in
    let next : suc index ≡ index + 1 = omega arith in
    let P : ℕ → Type 0 = λ i. played_of c.replay_line.new.play ≡ play_lines c.args.play.now.running.registry c.args.trace.now.seed (reverse (take i c.lines-line-items.result.now)) in
    let T : ℕ → Type 0 = λ i. string_bytes c.replay_line.new.out ≡ lines_told c.args.play.now.running.registry c.args.trace.now.seed (reverse (take i c.lines-line-items.result.now)) in
    let now : played_of c.replay_line.new.play ≡ play_on c.args.play.now.running.registry c.args.trace.now.seed (played_of c.loop-line.play) c.line-item.result =
    told.play
    ∙ ap (λ (d : Configuration). play_on d c.loop-line.play.seed (played_of c.loop-line.play) c.line-item.result) was.registry
    ∙ ap (λ (s : List ℕ). play_on c.args.play.now.running.registry s (played_of c.loop-line.play) c.line-item.result) was.seed in
    let played : P (suc index) =
    play_next c.args.play.now.running.registry c.args.trace.now.seed c.lines-line-items.result.now index c.line-item.result (played_of c.loop-line.play) (played_of c.replay_line.new.play)
    c.loop-line-test.true c.line-item.is was.played now in
    let text : T (suc index) =
    text_next c.args.play.now.running.registry c.args.trace.now.seed c.lines-line-items.result.now index c.line-item.result (played_of c.replay_line.new.play) (string_bytes c.loop-line.out) (string_bytes c.replay_line.new.out)
    c.loop-line-test.true c.line-item.is played was.text
    (told.text ∙ ap (λ (d : Configuration). string_bytes c.loop-line.out ++ line_told d (played_of c.replay_line.new.play) c.line-item.result) was.registry) in
    record {
      registry = told.registry ∙ was.registry;
      seed = told.seed ∙ was.seed;
      played = subst P next played;
      text = subst T next text;
    }

pub returns-clause-text : goal.returns-clause-text
returns-clause-text c =
    subst (λ (t : Text). IfOk c.finish.result (λ r. r.text ≡ t))
    (text_is c.args.play.now.running.registry c.args.trace.now c.lines-line-items.result.now c.loop-line.line-index (omega (arith, c.loop-line-test.false)) c.lines-line-items.ensures
    c.loop-line.play.running.registry (played_of c.loop-line.play) (string_bytes c.loop-line.out) c.loop-line.invariant.registry c.loop-line.invariant.played c.loop-line.invariant.text)
    c.finish.ensures.text

pub returns-clause-end : goal.returns-clause-end
returns-clause-end c =
    subst (λ (e : ReplayEnd). IfOk c.finish.result (λ r. r.end ≡ e))
    (end_is c.args.play.now.running.registry c.args.trace.now c.lines-line-items.result.now c.loop-line.line-index (omega (arith, c.loop-line-test.false)) c.lines-line-items.ensures
    c.loop-line.play.running.registry (played_of c.loop-line.play) c.loop-line.invariant.registry c.loop-line.invariant.played)
    c.finish.ensures.end

pub returns-clause-well : goal.returns-clause-well
returns-clause-well c =
    always c.finish.result (plays_well c.args.play.now.running.registry c.args.trace.now c.loop-line.play c.theorem.ensures c.loop-line.invariant.registry
    (all_played c.args.play.now.running.registry c.args.trace.now c.lines-line-items.result.now c.loop-line.line-index (omega (arith, c.loop-line-test.false)) c.lines-line-items.ensures
    (played_of c.loop-line.play) c.loop-line.invariant.played)
    c.requires.lines c.requires.read)
