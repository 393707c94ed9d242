use Rattle.std.proofs.Common.{◌∷◌, [], sym, ◌∙◌, arith}
use Rattle.std.proofs.lemmas.List.{length-append}
use Rattle.std.proofs.lemmas.Result.{err_from_is_err_and}
use Rattle.server_desk.proofs.Pieces.{gives_more}
use Rattle.sso_http.proofs.OneHead.{ended_head}
use Rattle.sso_http.proofs.WholeRequests.{no_memory}
use Rattle.sso_http.proofs.input.read_head.Goals as goal

pub returns-in_err-take-clause-err : goal.returns-in_err-take-clause-err
returns-in_err-take-clause-err g c =
    let p = err_from_is_err_and c.from_residual-in_err-take.result c.from_residual-in_err-take.ensures.1 in
    rw (p.1, p.2) (no_memory _ _ _ (gives_more _ _ _ _ (c.in-Some.byte ∷ []) c.loop-source.invariant.given (rw c.in-Some.is at c.in_ok-byte.ensures.given)))

pub returns-then-branch-clause-ok : goal.returns-then-branch-clause-ok
returns-then-branch-clause-ok g c =
    let more = c.in_ok-take.ensures.more in
    record {
      given = rw more.0 (gives_more _ _ _ _ (c.in-Some.byte ∷ []) c.loop-source.invariant.given (rw c.in-Some.is at c.in_ok-byte.ensures.given));
      head_is = ended_head c.loop-source.head.bytes.items c.take.new.self.bytes.items c.in-Some.byte more.0 c.loop-source.invariant.none (sym more.2 ∙ c.if-branch.true);
      within = rw more.0 (omega (arith, length-append c.loop-source.head.bytes.items (c.in-Some.byte ∷ []), c.loop-source-test.true, c.len.ensures));
    }
