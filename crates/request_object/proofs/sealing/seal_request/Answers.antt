use Rattle.std.proofs.Common.{ap, ◌∙◌}
use Rattle.std.proofs.lemmas.Result.{IfOk-weaker}
use Rattle.claim_set.specs.Reading.{claims_text}
use Rattle.jws_compact.specs.Jws.{header_bytes}
use Rattle.jws_compact.specs.declared.sealing.Typ.TheVariants.{Jwt}
use Rattle.request_object.proofs.RoundTrip.{text_of_payload, read_of_payload}
use Rattle.request_object.proofs.sealing.seal_request.Goals as goal

pub returns-clause-text : goal.returns-clause-text
returns-clause-text c =
    let key = c.as_bytes.ensures.value ∙ (c.as_str-key.ensures.value ∙ c.sealing.ensures) in
    let payload = c.as_bytes-2.ensures ∙ (c.in_ok-payload.ensures.text ∙ ap claims_text c.in_ok-request_set.ensures) in
    IfOk-weaker c.seal.result _ _ (λ t text. text_of_payload c.args.client.now c.args.issuer.now c.args.params.now c.as_bytes.result.now c.as_bytes-2.result.now t key payload text) c.seal.ensures.text

pub returns-clause-reads_back : goal.returns-clause-reads_back
returns-clause-reads_back c =
    let key = c.as_bytes.ensures.value ∙ (c.as_str-key.ensures.value ∙ c.sealing.ensures) in
    IfOk-weaker c.seal.result _ _ (λ t sealed. read_of_payload c.args.client.now c.args.issuer.now c.args.params.now c.requires.request c.requires.request_uri c.requires.registration c.as_bytes.result.now (header_bytes Jwt) c.as_bytes-2.result.now t key
    (rw (c.as_bytes-2.ensures, ← c.in_ok-request_set.ensures) c.in_ok-payload.ensures.reads_back) sealed) c.seal.ensures.sealed
