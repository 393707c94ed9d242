-- The round trip of logout tokens, as a law of the definitions.
use Rattle.std.proofs.Common.{◌≡◌, ℕ, List, Ok}
use Rattle.claim_set.specs.Reading.{claims_text}
use Rattle.claim_set.proofs.Written.{claims_read-claims_text, are_bytes-claims_text}
use Rattle.sso_base.proofs.Spelling.{IsBytes-from_all_bytes}
use Rattle.jws_compact.specs.Jws.{Sealed, header_bytes}
use Rattle.jws_compact.specs.declared.sealing.Typ.TheVariants.{LogoutJwt}
use Rattle.jws_compact.proofs.Written.{written_sealed}
use Rattle.logout_token.specs.declared.claims.LogoutClaims.{LogoutClaims}
use Rattle.logout_token.specs.LogoutToken.{logout_members, logout_read, logout_text}
use Rattle.logout_token.specs.Fitting.{IsSealable}
use Rattle.logout_token.proofs.RoundTrip.{logout_read-sealed}

pub logout_text-Sealed : (k : List ℕ) (x : LogoutClaims) → IsSealable x → Sealed k (header_bytes LogoutJwt) (claims_text (logout_members x)) (logout_text k x)
unfolding logout_text
logout_text-Sealed k x s =
    let p = claims_text (logout_members x) in
    written_sealed k p LogoutJwt (IsBytes-from_all_bytes p (are_bytes-claims_text (logout_members x) s.fits)) s.short

pub logout_read-logout_text : (k : List ℕ) (x : LogoutClaims) → IsSealable x → logout_read k (logout_text k x) ≡ Ok x
logout_read-logout_text k x s =
    logout_read-sealed x s.names s.exp s.iat k (claims_text (logout_members x)) (logout_text k x) (logout_text-Sealed k x s) (claims_read-claims_text (logout_members x) s.fits)
