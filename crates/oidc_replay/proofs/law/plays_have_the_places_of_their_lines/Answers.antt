use Rattle.oidc_replay.specs.Play.{play_of}
use Rattle.oidc_replay.proofs.PlacesTaken.{has_places, ends_next}
use Rattle.oidc_replay.proofs.law.plays_have_the_places_of_their_lines.Goals as goal

pub returns-clause-places : goal.returns-clause-places
unfolding play_of
returns-clause-places c = λ configuration told. has_places configuration told.seed told.lines

pub returns-clause-ended : goal.returns-clause-ended
unfolding play_of
returns-clause-ended c = λ configuration told. ends_next configuration told.seed told.lines
