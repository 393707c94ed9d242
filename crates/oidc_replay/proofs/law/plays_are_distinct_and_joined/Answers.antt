use Rattle.oidc_replay.specs.Play.{play_of}
use Rattle.oidc_replay.proofs.PlayLaws.{distinct, joined}
use Rattle.oidc_replay.proofs.law.plays_are_distinct_and_joined.Goals as goal

pub returns-clause-distinct : goal.returns-clause-distinct
unfolding play_of
returns-clause-distinct c = λ configuration told few. distinct configuration told.seed told.lines few

pub returns-clause-joined : goal.returns-clause-joined
unfolding play_of
returns-clause-joined c = λ configuration told few. joined configuration told.seed told.lines few
