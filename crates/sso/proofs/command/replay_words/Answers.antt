use Rattle.std.proofs.Common.{inr}
use Rattle.sso.proofs.Fetched.{replay_fetched, if_ok_both}
use Rattle.sso.proofs.command.replay_words.Goals as goal

pub returns-in-Ok-clause-may : goal.returns-in-Ok-clause-may
returns-in-Ok-clause-may g c =
    if_ok_both c.answer_replay.result _ _ _
    (λ outcome is well. inr (replay_fetched _ _ _ c.in-Ok.config c.in-Ok.trace outcome c.in-Ok.ensures.first c.in-Ok.ensures.second is well))
    c.answer_replay.ensures.answer c.answer_replay.ensures.well
