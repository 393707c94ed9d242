use Rattle.std.proofs.lemmas.Result.{IfOk-weaker}
use Rattle.logout_token.proofs.RoundTrip.{logout_read-sealed, text_of_payload}
use Rattle.logout_token.proofs.sealing.seal_logout.Goals as goal

pub returns-clause-text : goal.returns-clause-text
returns-clause-text c = IfOk-weaker c.seal.result _ _ (λ t sealed. text_of_payload c.args.key.now _ t c.args.claims.now sealed
    (rw (c.as_bytes.ensures, ← c.in_ok-logout_set.ensures) c.in_ok-payload.ensures.text)) c.seal.ensures.text

pub returns-clause-reads_back : goal.returns-clause-reads_back
returns-clause-reads_back c = IfOk-weaker c.seal.result _ _ (λ t sealed. logout_read-sealed c.args.claims.now c.requires.names c.requires.exp c.requires.iat c.args.key.now _ t sealed
    (rw (c.as_bytes.ensures, ← c.in_ok-logout_set.ensures) c.in_ok-payload.ensures.reads_back)) c.seal.ensures.sealed
