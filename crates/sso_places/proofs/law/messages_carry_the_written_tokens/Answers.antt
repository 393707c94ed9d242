use Rattle.sso_places.proofs.Messages.{messages_carry}
use Rattle.sso_places.proofs.law.messages_carry_the_written_tokens.Goals as goal

pub returns : goal.returns
returns c = messages_carry
