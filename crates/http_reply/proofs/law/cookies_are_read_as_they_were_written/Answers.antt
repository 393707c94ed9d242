use Rattle.http_reply.proofs.Reading.{read_of_cookie}
use Rattle.http_reply.proofs.law.cookies_are_read_as_they_were_written.Goals as goal

pub returns : goal.returns
returns c = read_of_cookie
