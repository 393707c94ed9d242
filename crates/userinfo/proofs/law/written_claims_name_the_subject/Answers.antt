use Rattle.userinfo.proofs.RoundTrip.{written_is_read}
use Rattle.userinfo.proofs.law.written_claims_name_the_subject.Goals as goal

pub returns : goal.returns
returns c = written_is_read
