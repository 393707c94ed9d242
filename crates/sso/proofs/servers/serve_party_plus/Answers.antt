use Rattle.std.proofs.Common.{◌∙◌, sym, None}
use Rattle.sso.proofs.Known.{known_party, trusted_issuer}
use Rattle.sso.proofs.servers.serve_party_plus.Goals as goal

pub serve_trusting_plus-requires-clause-party : goal.serve_trusting_plus-requires-clause-party
serve_trusting_plus-requires-clause-party g c κs within =
    known_party c.args.registry.now c.as_bytes.result.now c.in-Some.party (sym c.find_party.ensures ∙ c.in-Some.is)

pub serve_trusting_plus-requires-clause-issuer : goal.serve_trusting_plus-requires-clause-issuer
serve_trusting_plus-requires-clause-issuer g c κs within =
    trusted_issuer c.args.registry.now None c.in-Ok.provider (sym c.in_ok-provider.ensures ∙ c.in-Ok.is)
