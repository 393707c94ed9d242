-- The round trip of ID Tokens, as a law of the definitions.
use Rattle.std.proofs.Common.{◌≡◌, ℕ, List, Ok}
use Rattle.claim_set.specs.Reading.{claims_text}
use Rattle.claim_set.proofs.Written.{claims_read-claims_text, are_bytes-claims_text}
use Rattle.jws_compact.specs.Jws.{Sealed, header_bytes}
use Rattle.jws_compact.specs.declared.sealing.Typ.TheVariants.{Jwt}
use Rattle.jws_compact.proofs.Written.{written_sealed}
use Rattle.sso_base.proofs.Spelling.{IsBytes-from_all_bytes}
use Rattle.id_token.specs.declared.claims.IdClaims.{IdClaims}
use Rattle.id_token.specs.Claims.{id_members}
use Rattle.id_token.specs.Reading.{id_read}
use Rattle.id_token.specs.Sealing.{id_text, IsSealable}
use Rattle.id_token.proofs.RoundTrip.{id_read-sealed}

pub id_text-Sealed : (k : List ℕ) (x : IdClaims) → IsSealable x → Sealed k (header_bytes Jwt) (claims_text (id_members x)) (id_text k x)
unfolding id_text
id_text-Sealed k x h =
    let p = claims_text (id_members x) in
    written_sealed k p Jwt (IsBytes-from_all_bytes p (are_bytes-claims_text (id_members x) h.fits)) h.short

pub id_read-id_text : (k : List ℕ) (x : IdClaims) → IsSealable x → id_read k (id_text k x) ≡ Ok x
id_read-id_text k x h =
    id_read-sealed x h.others h.subject h.exp h.iat h.auth_time k (header_bytes Jwt) (claims_text (id_members x)) (id_text k x) (id_text-Sealed k x h)
    (claims_read-claims_text (id_members x) h.fits)
