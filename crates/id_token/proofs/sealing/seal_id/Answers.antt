use Rattle.std.proofs.Common.{◌∙◌, ap}
use Rattle.claim_set.specs.Reading.{claims_text}
use Rattle.jws_compact.specs.Jws.{seal_text}
use Rattle.jws_compact.specs.declared.sealing.Typ.TheVariants.{Jwt}
use Rattle.std.proofs.lemmas.Result.{IfOk-weaker}
use Rattle.id_token.proofs.RoundTrip.{id_read-sealed}
use Rattle.id_token.specs.Sealing.{id_text}
use Rattle.id_token.proofs.sealing.seal_id.Goals as goal

pub returns-clause-reads_back : goal.returns-clause-reads_back
returns-clause-reads_back c = IfOk-weaker c.seal.result _ _ (λ t sealed. id_read-sealed c.args.claims.now c.requires.others c.requires.subject c.requires.exp c.requires.iat c.requires.auth_time
    c.args.key.now _ _ t sealed (rw (c.as_bytes.ensures, ← c.in_ok-id_set.ensures) c.in_ok-payload.ensures.reads_back)) c.seal.ensures.sealed

pub returns-clause-text : goal.returns-clause-text
unfolding id_text
returns-clause-text c = IfOk-weaker c.seal.result _ _ (λ t text. text ∙ ap (seal_text c.args.key.now Jwt) (c.as_bytes.ensures ∙ (c.in_ok-payload.ensures.text ∙ ap claims_text c.in_ok-id_set.ensures))) c.seal.ensures.text
