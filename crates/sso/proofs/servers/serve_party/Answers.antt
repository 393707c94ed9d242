use Rattle.std.proofs.Common.{◌∙◌, sym}
use Rattle.sso.proofs.Known.{known_party, trusted_issuer}
use Rattle.sso.proofs.servers.serve_party.Goals as goal

pub serve_trusting-requires-clause-party : goal.serve_trusting-requires-clause-party
serve_trusting-requires-clause-party g c κs within = known_party c.args.registry.now c.as_bytes.result.now c.in-Some.party (sym c.find_party.ensures ∙ c.in-Some.is)

pub serve_trusting-requires-clause-issuer : goal.serve_trusting-requires-clause-issuer
serve_trusting-requires-clause-issuer g c κs within = trusted_issuer c.args.registry.now c.args.metadata.now c.in-Ok.provider (sym c.in_ok-provider.ensures ∙ c.in-Ok.is)
