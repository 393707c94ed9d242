use Rattle.std.proofs.Common.{Result, Err, List, ℕ, sym, subst}
use Rattle.server_desk.specs.declared.link.LinkNo.{LinkNo}
use Rattle.sso_http.specs.Peers.{IsNoAnswer}
use Rattle.serving.specs.declared.no_reply.NoReply.TheVariants.{Peer}
use Rattle.serving.specs.Serving.{IsPeerAnswer}
use Rattle.serving.proofs.serve_one.peer_answer.Goals as goal

-- src/serve_one.rt:48:1
pub returns-in-Ok : goal.returns-in-Ok
returns-in-Ok c =
    let none = rw c.in-None.is at c.in_ok-answer-in-Ok.ensures.none in
    subst (λ (back : Result (List ℕ) LinkNo). IsPeerAnswer back (Err Peer)) (sym c.in-Ok.is) (subst (λ (bytes : List ℕ). IsNoAnswer bytes) c.as_bytes.ensures none)
