use Rattle.id_token.proofs.Audience.{id_read-audience}
use Rattle.id_token.proofs.law.read_tokens_name_their_audience.Goals as goal

pub returns : goal.returns
returns c = id_read-audience
