use Rattle.oidc_replay.specs.Play.{play_of}
use Rattle.oidc_replay.proofs.PlayTimes.{time_goes_on}
use Rattle.oidc_replay.proofs.law.time_goes_on_in_plays.Goals as goal

pub returns : goal.returns
unfolding play_of
returns c = λ configuration told read. time_goes_on configuration told.seed told.lines read.order
