use Rattle.rp_response.proofs.ReplyLaws.{exchanges_are_alike, fetches_are_alike}
use Rattle.rp_response.proofs.LineLaws.{exchange_alike, fetch_alike}
use Rattle.rp_response.proofs.law.messages_are_not_told.Goals as goal

pub returns-clause-exchange : goal.returns-clause-exchange
returns-clause-exchange c = exchanges_are_alike

pub returns-clause-fetch : goal.returns-clause-fetch
returns-clause-fetch c = fetches_are_alike

pub returns-clause-exchange_line : goal.returns-clause-exchange_line
returns-clause-exchange_line c = exchange_alike

pub returns-clause-fetch_line : goal.returns-clause-fetch_line
returns-clause-fetch_line c = fetch_alike
