use Rattle.std.proofs.Common.{subst, sym}
use Rattle.client_registry.specs.Registered.{HoldsClaims}
use Rattle.userinfo.proofs.UserTexts.{refused_for_memory}
use Rattle.userinfo.proofs.held.text_claims.Goals as goal

pub as_memory-requires : goal.as_memory-requires
as_memory-requires c =
    refused_for_memory c.as_bytes.result.now c.in-Err.error (subst HoldsClaims (sym c.as_bytes.ensures) c.requires) c.in-Err.ensures.refuses
