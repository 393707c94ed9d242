use Rattle.oidc_replay.proofs.HashedLogins.{tokens_were_given}
use Rattle.oidc_replay.proofs.law.tokens_that_are_read_were_given.Goals as goal

pub returns : goal.returns
returns c = λ configuration world x told came registry legal has is read. tokens_were_given configuration world x told came registry legal has is read
