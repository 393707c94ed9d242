-- Sealed texts: the compact serialization of a JSON Web Signature (RFC 7515, 3.1 and 7.1). HMAC-SHA-256 is the only algorithm
-- (RFC 7518, 3.2). Keys, headers, payloads and texts are lists of bytes.
use Rattle.std.specs.Prelude.{◌≡◌, ◌≤◌, ℕ, ◌+◌, ◌==◌, Bool, false, not, List, [], ◌∷◌, ◌++◌, length, nat_lt, Option, Some, None, option_map, option_and_then}
use Rattle.std.specs.Prelude.{is_some, unwrap_or, Result, Ok, codes, if◌then◌else◌}
use Rattle.std.specs.Str.{is_utf8, bytes_eq}
use Rattle.base64.specs.GeneralPurpose.{IsBytes}
use Rattle.serde_json.specs.Data.{Data}
use Rattle.serde_json.specs.Read.{read}
use Rattle.serde_json.specs.Find.{get, as_object, as_str}
use Rattle.hmac256.specs.Hmac.{hmac_of}
use Rattle.sso_base.specs.Refusals.{demand, forbid}
use Rattle.sso_base.specs.Base64Url.{b64u, unb64u, unb64u_32}
use Rattle.jws_compact.specs.declared.sealing.Typ.{Typ}
use Rattle.jws_compact.specs.declared.sealing.Typ.TheVariants.{Jwt, LogoutJwt}
use Rattle.jws_compact.specs.declared.unsealing.Unsealed.{Unsealed}
use Rattle.jws_compact.specs.declared.no.JwsNo.{JwsNo}
use Rattle.jws_compact.specs.declared.no.JwsNo.TheVariants.{TooLong, NotThreeParts, HeaderSpelling, PayloadSpelling, MacSpelling, HeaderNotObject, AlgNotHs256}
use Rattle.jws_compact.specs.declared.no.JwsNo.TheVariants.{Crit, BadMac}

-- ---- headers

abbrev pub if_object : Data → Option Data
if_object d = if is_some (as_object d) then Some d else None

-- the JSON object whose text these bytes are
unfoldable pub read_object : List ℕ → Option Data
read_object h = if is_utf8 h then option_and_then if_object (read h) else None

-- a member of an object, if it is a string
abbrev pub text_member : List ℕ → Data → Option (List ℕ)
text_member name d = option_and_then as_str (get name d)

-- a header for HMAC-SHA-256: its `alg` is HS256 (RFC 7515, 4.1.1), and it has no `crit`, which would list members that must be
-- understood (RFC 7515, 4.1.11)
pub record IsHeader (h : List ℕ) : Type 0 where
  pub value : Data
  pub is : read_object h ≡ Some value
  pub alg : text_member (codes "alg") value ≡ Some (codes "HS256")
  pub no_crit : get (codes "crit") value ≡ None

-- a header's `typ` (RFC 7515, 4.1.9), if it is a string
unfoldable pub typ_of : List ℕ → Option (List ℕ)
typ_of h = option_and_then (text_member (codes "typ")) (read_object h)

-- the header that is written for a kind of text
unfoldable pub header_bytes : Typ → List ℕ
header_bytes Jwt = codes "{\"alg\":\"HS256\",\"typ\":\"JWT\"}"
header_bytes LogoutJwt = codes "{\"alg\":\"HS256\",\"typ\":\"logout+jwt\"}"

-- its `typ`
abbrev pub typ_text : Typ → List ℕ
typ_text Jwt = codes "JWT"
typ_text LogoutJwt = codes "logout+jwt"

-- ---- sealed texts

-- the signing input: the header and the payload, encoded, with a dot between them (RFC 7515, 5.1, step 5)
abbrev pub signing_input : List ℕ → List ℕ → List ℕ
signing_input h p = b64u h ++ 46 ∷ b64u p

-- the compact serialization: the signing input, a dot, and its encoded MAC under the key (RFC 7515, 7.1)
abbrev pub compact_form : List ℕ → List ℕ → List ℕ → List ℕ
compact_form k h p = signing_input h p ++ 46 ∷ b64u (hmac_of k (signing_input h p))

-- t is the sealed text of the header h and the payload p under the key k
pub record Sealed (k h p t : List ℕ) : Type 0 where
  pub text : t ≡ compact_form k h p
  pub short : length t ≤ 8192
  pub header_bytes : IsBytes h
  pub payload_bytes : IsBytes p
  pub header : IsHeader h

-- the text that is written for a payload of a kind
unfoldable pub seal_text : List ℕ → Typ → List ℕ → List ℕ
seal_text k typ p = compact_form k (header_bytes typ) p

-- the contents of a sealed text with this header and payload
abbrev pub opened : List ℕ → List ℕ → Unsealed
opened h p = record { typ = typ_of h; payload = p }

-- the contents of the text that is written for a payload of a kind
abbrev pub written : Typ → List ℕ → Unsealed
written typ p = record { typ = Some (typ_text typ); payload = p }

-- the text t is sealed under the key k, and u is its contents
abbrev pub Opens : List ℕ → List ℕ → Unsealed → Type 0
Opens k t u = (h : List ℕ) × Sealed k h u.payload t × (u.typ ≡ typ_of h)

-- ---- the errors, in order: the first that applies is returned

-- the number of dots
abbrev pub dots : List ℕ → ℕ
dots [] = 0
dots (x ∷ xs) = if x == 46 then 1 + dots xs else dots xs

-- the parts before and after the first dot
abbrev pub at_first_dot : List ℕ → Option (List ℕ × List ℕ)
at_first_dot [] = None
at_first_dot (x ∷ xs) = if x == 46 then Some ([], xs) else option_map (λ p. (x ∷ p.0, p.1)) (at_first_dot xs)

abbrev pub no_dot : List ℕ → List ℕ → List ℕ → Option (List ℕ × List ℕ × List ℕ)
no_dot a b c = if is_some (at_first_dot c) then None else Some (a, b, c)

abbrev pub at_second_dot : List ℕ → List ℕ → Option (List ℕ × List ℕ × List ℕ)
at_second_dot a rest = option_and_then (λ p. no_dot a p.0 p.1) (at_first_dot rest)

-- the three parts of a text with two dots
unfoldable pub three_parts : List ℕ → Option (List ℕ × List ℕ × List ℕ)
three_parts t = option_and_then (λ p. at_second_dot p.0 p.1) (at_first_dot t)

unfoldable pub is_hs256 : Data → Bool
is_hs256 d = unwrap_or (option_map (λ s. bytes_eq s (codes "HS256")) (text_member (codes "alg") d)) false

unfoldable pub has_crit : Data → Bool
has_crit d = is_some (get (codes "crit") d)

-- the payload that a text has, whether it is sealed or not
unfoldable pub payload_in : List ℕ → Option (List ℕ)
payload_in t = if nat_lt 8192 (length t) then None else option_and_then (λ s. unb64u s.1) (three_parts t)

-- the contents of a text under a key, or why it is rejected
unfoldable pub verdict : List ℕ → List ℕ → Result Unsealed JwsNo
verdict k t =
    forbid TooLong (nat_lt 8192 (length t))
    (demand NotThreeParts (three_parts t) (λ s.
    demand HeaderSpelling (unb64u s.0) (λ h.
    demand PayloadSpelling (unb64u s.1) (λ p.
    demand MacSpelling (unb64u_32 s.2) (λ m.
    demand HeaderNotObject (read_object h) (λ d.
    forbid AlgNotHs256 (not (is_hs256 d))
    (forbid Crit (has_crit d)
    (forbid BadMac (not (bytes_eq m (hmac_of k (s.0 ++ 46 ∷ s.1))))
    (Ok (opened h p))))))))))
