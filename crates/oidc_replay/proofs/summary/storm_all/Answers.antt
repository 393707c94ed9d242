use Rattle.std.proofs.Common.{◌≡◌, IfOk, subst}
use Rattle.std.specs.Prelude.{string_bytes}
use Rattle.sso_base.specs.Words.{Text}
use Rattle.client_registry.specs.Configuration.{Configuration}
use Rattle.trace_lines.specs.Trace.{Told}
use Rattle.oidc_replay.specs.Play.{Played, played_of, play_lines, play_of}
use Rattle.oidc_replay.specs.declared.replaying.ReplayEnd.{ReplayEnd}
use Rattle.oidc_replay.proofs.PlayLaws.{summary_is, end_played, plays_well, always}
use Rattle.oidc_replay.proofs.summary.storm_all.Goals as goal

lines_of_play : (c : Configuration) (told : Told) (p : Played) → p ≡ play_of c told → p ≡ play_lines c told.seed told.lines
unfolding play_of
lines_of_play c told p is = is

pub returns-clause-text : goal.returns-clause-text
returns-clause-text c =
    subst (λ (t : Text). IfOk c.finish.result (λ r. r.text ≡ t))
    (summary_is c.args.play.now.running.registry c.args.trace.now c.play_all.new.play.running.registry (played_of c.play_all.new.play) c.in_ok-play_all.ensures.registry c.in_ok-play_all.ensures.played c.args.number c.args.count (string_bytes c.in_ok-text.text) c.in_ok-text.ensures)
    c.finish.ensures.text

pub returns-clause-end : goal.returns-clause-end
returns-clause-end c =
    subst (λ (e : ReplayEnd). IfOk c.finish.result (λ r. r.end ≡ e))
    (end_played c.args.play.now.running.registry c.args.trace.now c.play_all.new.play.running.registry (played_of c.play_all.new.play) c.in_ok-play_all.ensures.registry c.in_ok-play_all.ensures.played)
    c.finish.ensures.end

pub returns-clause-well : goal.returns-clause-well
returns-clause-well c =
    always c.finish.result (plays_well c.args.play.now.running.registry c.args.trace.now c.play_all.new.play c.theorem.ensures c.in_ok-play_all.ensures.registry (lines_of_play c.args.play.now.running.registry c.args.trace.now (played_of c.play_all.new.play) c.in_ok-play_all.ensures.played) c.requires.lines c.requires.read)
