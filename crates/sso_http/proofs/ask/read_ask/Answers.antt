use Rattle.std.proofs.lemmas.Result.{err_from_is_err_and}
use Rattle.sso_http.proofs.WholeRequests.{whole_request, part_of_request}
use Rattle.sso_http.proofs.ask.read_ask.Goals as goal

pub returns-in_err-body-clause-err : goal.returns-in_err-body-clause-err
returns-in_err-body-clause-err g c =
    let p = err_from_is_err_and c.from_residual-in_err-body.result c.from_residual-in_err-body.ensures.1 in
    rw (p.1, p.2) (part_of_request _ _ _ _ _ _ _ c.in_ok-head.ensures.ok c.in_ok-judged.ensures.ok _ c.in_err-body.ensures.err)

pub returns-clause-ok : goal.returns-clause-ok
returns-clause-ok g c = whole_request _ _ _ _ _ _ _ c.in_ok-head.ensures.ok c.in_ok-judged.ensures.ok _ _ c.in_ok-body.ensures.ok c.with_body.ensures
