-- The round trip of request objects, as a law of the definitions.
use Rattle.std.proofs.Common.{◌≡◌, ℕ, List, Ok}
use Rattle.claim_set.specs.Reading.{claims_text}
use Rattle.claim_set.proofs.Written.{claims_read-claims_text, are_bytes-claims_text}
use Rattle.jws_compact.specs.Jws.{Sealed, header_bytes}
use Rattle.jws_compact.specs.declared.sealing.Typ.TheVariants.{Jwt}
use Rattle.jws_compact.proofs.Written.{written_sealed}
use Rattle.sso_base.proofs.Spelling.{IsBytes-from_all_bytes}
use Rattle.client_registry.specs.declared.records.Client.{Client}
use Rattle.client_registry.specs.Secrets.{sealing}
use Rattle.client_registry.proofs.SecretFacts.{seals_with_its_own}
use Rattle.client_keys.specs.Opening.{SealedFor}
use Rattle.request_params.specs.declared.params.Params.{Params}
use Rattle.request_object.specs.Request.{request_members, request_text}
use Rattle.request_object.specs.Sealing.{IsSealable}
use Rattle.request_object.specs.Reading.{request_read}
use Rattle.request_object.proofs.RoundTrip.{request_read-sealed}

pub request_text-Sealed : (client : Client) (issuer : List ℕ) (p : Params) → IsSealable client issuer p → Sealed (sealing client) (header_bytes Jwt) (claims_text (request_members client issuer p)) (request_text client issuer p)
unfolding request_text
request_text-Sealed client issuer p s =
    let q = claims_text (request_members client issuer p) in
    written_sealed (sealing client) q Jwt (IsBytes-from_all_bytes q (are_bytes-claims_text (request_members client issuer p) s.fits)) s.short

-- so it is sealed for the client
pub request_text-SealedFor : (client : Client) (issuer : List ℕ) (p : Params) → IsSealable client issuer p → SealedFor client (header_bytes Jwt) (claims_text (request_members client issuer p)) (request_text client issuer p)
request_text-SealedFor client issuer p s = record { secret = sealing client; own = seals_with_its_own client; sealed = request_text-Sealed client issuer p s }

pub request_read-request_text : (client : Client) (issuer : List ℕ) (p : Params) → IsSealable client issuer p → request_read client issuer (request_text client issuer p) ≡ Ok p
request_read-request_text client issuer p s =
    request_read-sealed client issuer p s.request s.request_uri s.registration (header_bytes Jwt) (claims_text (request_members client issuer p)) (request_text client issuer p)
    (request_text-SealedFor client issuer p s) (claims_read-claims_text (request_members client issuer p) s.fits)
