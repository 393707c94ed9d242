-- Base64url texts, and sealed texts, are ASCII.
use Rattle.std.proofs.Common.{◌≡◌, suc, true, [], ◌∷◌, ◌++◌, nat_lt, refl}
use Rattle.std.specs.Str.{IsAscii}
use Rattle.std.proofs.lemmas.Bool.{lt-ltb}
use Rattle.base64.specs.Engines.{url_safe_no_pad}
use Rattle.base64.proofs.EngineFacts.{IsAscii-encode_of}
use Rattle.hmac256.specs.Hmac.{hmac_of}
use Rattle.sso_base.specs.Base64Url.{b64u}
use Rattle.sso_base.specs.Words.{Text}
use Rattle.sso_base.specs.Texts.{is_ascii}
use Rattle.sso_base.proofs.Spelling.{both_true}
use Rattle.jws_compact.specs.Jws.{seal_text, header_bytes, signing_input}
use Rattle.jws_compact.specs.declared.sealing.Typ.{Typ}

pub ascii_bytes : (t : Text) → IsAscii t → is_ascii t ≡ true
ascii_bytes [] h = refl
ascii_bytes (b ∷ t) h = rw (lt-ltb b 128 (h 0), ascii_bytes t (λ i. h (suc i))) refl

pub ascii_joined : (s t : Text) → is_ascii s ≡ true → is_ascii t ≡ true → is_ascii (s ++ t) ≡ true
ascii_joined [] t f g = g
ascii_joined (b ∷ s) t f g = let parts = both_true (nat_lt b 128) (is_ascii s) f in rw (parts.0, ascii_joined s t parts.1 g) refl

pub spelled_ascii : (b : Text) → is_ascii (b64u b) ≡ true
unfolding b64u
spelled_ascii b = ascii_bytes (b64u b) (IsAscii-encode_of url_safe_no_pad b)

pub sealed_ascii : (k p : Text) (typ : Typ) → is_ascii (seal_text k typ p) ≡ true
unfolding seal_text
sealed_ascii k p typ =
    let input = signing_input (header_bytes typ) p in
    ascii_joined input (46 ∷ b64u (hmac_of k input)) (ascii_joined (b64u (header_bytes typ)) (46 ∷ b64u p) (spelled_ascii (header_bytes typ)) (spelled_ascii p)) (spelled_ascii (hmac_of k input))
