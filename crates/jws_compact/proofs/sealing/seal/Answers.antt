use Rattle.std.proofs.Common.{◌≡◌, arith, ◌∙◌}
use Rattle.jws_compact.specs.Jws.{seal_text}
use Rattle.jws_compact.proofs.Written.{text_of_form, sealed_text}
use Rattle.jws_compact.proofs.sealing.seal.Goals as goal

pub returns-clause-text : goal.returns-clause-text
returns-clause-text c =
    text_of_form c.args.key.now c.header_text.result.now c.args.payload.now c.from_string.result c.args.typ (c.from_string.ensures ∙ c.in_ok-text.ensures) c.header_text.ensures

pub returns-clause-sealed : goal.returns-clause-sealed
returns-clause-sealed c =
    let text : c.from_string.result ≡ seal_text c.args.key.now c.args.typ c.args.payload.now =
    text_of_form c.args.key.now c.header_text.result.now c.args.payload.now c.from_string.result c.args.typ (c.from_string.ensures ∙ c.in_ok-text.ensures) c.header_text.ensures in
    sealed_text c.args.key.now c.args.payload.now c.from_string.result c.args.typ text (λ i. omega (arith, c.type_inv.payload i)) c.requires
