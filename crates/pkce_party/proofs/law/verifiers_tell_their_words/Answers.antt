use Rattle.pkce_party.proofs.Requesting.{tell_their_words}
use Rattle.pkce_party.proofs.law.verifiers_tell_their_words.Goals as goal

pub returns : goal.returns
returns c = tell_their_words
