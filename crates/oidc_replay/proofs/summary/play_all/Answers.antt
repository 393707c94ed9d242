use Rattle.std.proofs.Common.{◌≡◌, ℕ, suc, ◌+◌, ◌≤◌, List, length, reverse, take, sym, ap, ◌∙◌, subst, arith}
use Rattle.client_registry.specs.Configuration.{Configuration}
use Rattle.trace_lines.specs.declared.line.Line.{Line}
use Rattle.trace_lines.specs.Order.{AreInOrder}
use Rattle.oidc_replay.specs.Play.{played_of, play_on, play_lines, play_of}
use Rattle.oidc_replay.specs.Sending.{NamesRole}
use Rattle.oidc_replay.proofs.InOrder.{line_names}
use Rattle.oidc_replay.proofs.PlayLaws.{play_next, places_few, all_played}
use Rattle.oidc_replay.proofs.summary.play_all.Goals as goal

pub line-requires-clause-few : goal.line-requires-clause-few
line-requires-clause-few c =
    let lines : length (reverse c.lines-line-items.result.now) ≤ 4194304 = subst (λ (ls : List Line). length ls ≤ 4194304) (sym c.lines-line-items.ensures) c.requires.lines.few in
    let few = places_few c.args.play.now.running.registry c.args.trace.now.seed c.lines-line-items.result.now c.loop-line.line-index 4194304 (played_of c.loop-line.play) lines c.loop-line.invariant.played in
    omega (arith, few)

pub line-requires-clause-role : goal.line-requires-clause-role
line-requires-clause-role c =
    let order : AreInOrder c.args.play.now.running.registry (reverse c.lines-line-items.result.now) = subst (AreInOrder c.args.play.now.running.registry) (sym c.lines-line-items.ensures) c.requires.lines.order in
    subst (λ (d : Configuration). NamesRole d c.line-item.result) (sym c.loop-line.invariant.registry)
    (line_names c.args.play.now.running.registry c.lines-line-items.result.now c.loop-line.line-index c.line-item.result order c.loop-line-test.true c.line-item.is)

pub loop-line-preserved : goal.loop-line-preserved
loop-line-preserved c =
    let told = c.in_ok-line.ensures in
    let was = c.loop-line.invariant in
    let index : ℕ = c.loop-line.line-index in
    let next : suc index ≡ index + 1 = omega arith in
    let P : ℕ → Type 0 = λ i. played_of c.line.new.self ≡ play_lines c.args.play.now.running.registry c.args.trace.now.seed (reverse (take i c.lines-line-items.result.now)) in
    let now : played_of c.line.new.self ≡ play_on c.args.play.now.running.registry c.args.trace.now.seed (played_of c.loop-line.play) c.line-item.result =
    told.ok
    ∙ ap (λ (d : Configuration). play_on d c.loop-line.play.seed (played_of c.loop-line.play) c.line-item.result) was.registry
    ∙ ap (λ (s : List ℕ). play_on c.args.play.now.running.registry s (played_of c.loop-line.play) c.line-item.result) was.seed in
    let played : P (suc index) =
    play_next c.args.play.now.running.registry c.args.trace.now.seed c.lines-line-items.result.now index c.line-item.result (played_of c.loop-line.play) (played_of c.line.new.self)
    c.loop-line-test.true c.line-item.is was.played now in
    record {
      registry = told.registry ∙ was.registry;
      seed = told.seed ∙ was.seed;
      played = subst P next played;
    }

pub returns-clause-registry : goal.returns-clause-registry
returns-clause-registry c = c.loop-line.invariant.registry

pub returns-clause-played : goal.returns-clause-played
unfolding play_of
returns-clause-played c =
    all_played c.args.play.now.running.registry c.args.trace.now c.lines-line-items.result.now c.loop-line.line-index (omega (arith, c.loop-line-test.false)) c.lines-line-items.ensures
    (played_of c.loop-line.play) c.loop-line.invariant.played
