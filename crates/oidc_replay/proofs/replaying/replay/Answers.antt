use Rattle.std.proofs.Common.{◌≡◌, IfOk, sym, subst}
use Rattle.client_registry.specs.Configuration.{Configuration}
use Rattle.client_registry.specs.Registered.{IsRegistry}
use Rattle.trace_lines.specs.Order.{IsReadFor}
use Rattle.oidc_replay.specs.End.{end_of}
use Rattle.oidc_replay.specs.Text.{text_of}
use Rattle.oidc_replay.specs.Theorem.{PlaysWell}
use Rattle.oidc_replay.proofs.replaying.replay.Goals as goal

pub replay_all-told-requires-clause-lines : goal.replay_all-told-requires-clause-lines
replay_all-told-requires-clause-lines c = subst (λ (d : Configuration). IsReadFor d c.args.trace.now) (sym c.in_ok-play.ensures.registry) c.requires

pub replay_all-told-requires-clause-read : goal.replay_all-told-requires-clause-read
replay_all-told-requires-clause-read c = subst IsRegistry (sym c.in_ok-play.ensures.registry) c.in_ok-play.ensures.read

pub returns-clause-text : goal.returns-clause-text
returns-clause-text c = subst (λ (d : Configuration). IfOk c.replay_all-told.result (λ r. r.text ≡ text_of d c.args.trace.now)) c.in_ok-play.ensures.registry c.replay_all-told.ensures.text

pub returns-clause-end : goal.returns-clause-end
returns-clause-end c = subst (λ (d : Configuration). IfOk c.replay_all-told.result (λ r. r.end ≡ end_of d c.args.trace.now)) c.in_ok-play.ensures.registry c.replay_all-told.ensures.end

pub returns-clause-well : goal.returns-clause-well
returns-clause-well c = subst (λ (d : Configuration). IfOk c.replay_all-told.result (λ r. PlaysWell d c.args.trace.now)) c.in_ok-play.ensures.registry c.replay_all-told.ensures.well
