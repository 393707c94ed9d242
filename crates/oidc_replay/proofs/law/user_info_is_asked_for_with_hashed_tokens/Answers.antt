use Rattle.oidc_replay.specs.Play.{play_of, play_lines}
use Rattle.oidc_replay.proofs.HashedLogins.{hashed}
use Rattle.oidc_replay.proofs.Played.{lines_played}
use Rattle.oidc_replay.proofs.law.user_info_is_asked_for_with_hashed_tokens.Goals as goal

pub returns : goal.returns
unfolding play_of
returns c = λ configuration told registry legal.
    hashed configuration told.seed (play_lines configuration told.seed told.lines).world registry legal (lines_played configuration told.seed told.lines).places
