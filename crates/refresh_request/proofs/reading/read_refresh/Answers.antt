use Rattle.std.proofs.Common.{ℕ, List, Option, option_map}
use Rattle.std.specs.Borrow.{Bor}
use Rattle.sso_base.proofs.Answering.{if_answered}
use Rattle.refresh_request.specs.Reading.{refresh_read, IsRefresh}
use Rattle.refresh_request.proofs.Requests.{is_refresh_of}
use Rattle.refresh_request.proofs.reading.read_refresh.Goals as goal

abbrev bytes : Option (Bor (List ℕ)) → Option (List ℕ)
bytes o = option_map (λ (b : Bor (List ℕ)). b.now) o

pub returns-clause-grant : goal.returns-clause-grant
returns-clause-grant c =
    if_answered (refresh_read c.args.registry.now (bytes c.args.auth) (bytes c.args.body)) (IsRefresh c.args.registry.now (bytes c.args.auth) (bytes c.args.body))
    (is_refresh_of c.args.registry.now (bytes c.args.auth) (bytes c.args.body)) c.refreshed.result c.refreshed.ensures.ok
