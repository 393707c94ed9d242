-- What is written is sealed, and is read.
use Rattle.std.proofs.Common.{◌≡◌, ℕ, suc, Option, Result, Ok, ◌+◌, ◌*◌, ◌/◌, ◌≤◌, List, ◌∷◌, length, Some, codes, refl, ◌∙◌, arith, length-append}
use Rattle.base64.specs.GeneralPurpose.{IsBytes}
use Rattle.std.specs.Str.{is_utf8, chars}
use Rattle.sso_base.proofs.Spelling.{IsBytes-from_all_bytes, length-b64u}
use Rattle.serde_json.proofs.OnLiterals.{serde_json_on_literals}
use Rattle.serde_json.specs.Data.{Data, string, object, member, no_members}
use Rattle.hmac256.specs.Hmac.{hmac_of}
use Rattle.hmac256.proofs.Facts.{length-hmac}
use Rattle.sso_base.specs.Base64Url.{b64u}
use Rattle.jws_compact.specs.declared.sealing.Typ.{Typ}
use Rattle.jws_compact.specs.declared.sealing.Typ.TheVariants.{Jwt, LogoutJwt}
use Rattle.jws_compact.specs.declared.unsealing.Unsealed.{Unsealed}
use Rattle.jws_compact.specs.declared.no.JwsNo.{JwsNo}
use Rattle.jws_compact.proofs.Opening.{sealed_verdict}
use Rattle.jws_compact.specs.Jws.{read_object, IsHeader, Sealed, signing_input, compact_form, seal_text, header_bytes, typ_text, typ_of, text_member, written, verdict}

abbrev header_data : Typ → Data
header_data t = object (member (codes "alg") (string (codes "HS256")) (member (codes "typ") (string (typ_text t)) no_members))

header_reads : (t : Typ) → read_object (header_bytes t) ≡ Some (header_data t)
unfolding header_bytes read_object serde_json_on_literals is_utf8 chars
header_reads Jwt = refl
header_reads LogoutJwt = refl

pub written_header : (t : Typ) → IsHeader (header_bytes t)
written_header Jwt = record { value = header_data Jwt; is = header_reads Jwt; alg = refl; no_crit = refl }
written_header LogoutJwt = record { value = header_data LogoutJwt; is = header_reads LogoutJwt; alg = refl; no_crit = refl }

typ_at : (t : Typ) → text_member (codes "typ") (header_data t) ≡ Some (typ_text t)
typ_at Jwt = refl
typ_at LogoutJwt = refl

pub typ_of-header_bytes : (t : Typ) → typ_of (header_bytes t) ≡ Some (typ_text t)
unfolding typ_of
typ_of-header_bytes t = rw (header_reads t) (typ_at t)

header_is_bytes : (t : Typ) → IsBytes (header_bytes t)
unfolding header_bytes
header_is_bytes Jwt = IsBytes-from_all_bytes (header_bytes Jwt) refl
header_is_bytes LogoutJwt = IsBytes-from_all_bytes (header_bytes LogoutJwt) refl

header_is_short : (t : Typ) → length (header_bytes t) ≤ 34
unfolding header_bytes
header_is_short Jwt = omega arith
header_is_short LogoutJwt = omega arith

-- the length of a text, by those of its parts
fits : (h p m s t : ℕ) → h ≤ 34 → p ≤ 6000 → m ≡ 32 → s ≡ (4 * h + 2) / 3 + suc ((4 * p + 2) / 3) → t ≡ s + suc ((4 * m + 2) / 3) → t ≤ 8192
fits h p m s t f g e i j = omega (arith, f, g, e, i, j)

form_is_short : (k h p : List ℕ) → length h ≤ 34 → length p ≤ 6000 → length (compact_form k h p) ≤ 8192
form_is_short k h p f g =
    let m = hmac_of k (signing_input h p) in
    fits (length h) (length p) (length m) (length (signing_input h p)) (length (compact_form k h p)) f g (length-hmac k (signing_input h p))
    (length-append (b64u h) (46 ∷ b64u p) ∙ rw (length-b64u h, length-b64u p) refl)
    (length-append (signing_input h p) (46 ∷ b64u m) ∙ rw (length-b64u m) refl)

-- what is written is sealed
pub written_sealed : (k p : List ℕ) (typ : Typ) → IsBytes p → length p ≤ 6000 → Sealed k (header_bytes typ) p (seal_text k typ p)
unfolding seal_text
written_sealed k p typ bytes short = record {
  text = refl;
  short = form_is_short k (header_bytes typ) p (header_is_short typ) short;
  header_bytes = header_is_bytes typ;
  payload_bytes = bytes;
  header = written_header typ;
}

abbrev unsealed_with : Option (List ℕ) → List ℕ → Result Unsealed JwsNo
unsealed_with typ p = Ok (record { typ = typ; payload = p })

same_typ : (p : List ℕ) (a b : Option (List ℕ)) → a ≡ b → unsealed_with a p ≡ unsealed_with b p
same_typ p a b e = rw e

-- what is written is read
pub written_verdict : (k p : List ℕ) (typ : Typ) → IsBytes p → length p ≤ 6000 → verdict k (seal_text k typ p) ≡ Ok (written typ p)
written_verdict k p typ bytes short =
    sealed_verdict k (header_bytes typ) p (seal_text k typ p) (written_sealed k p typ bytes short) ∙ same_typ p _ _ (typ_of-header_bytes typ)

-- ---- what `seal` answers

pub text_of_form : (k h p t : List ℕ) (typ : Typ) → t ≡ compact_form k h p → h ≡ header_bytes typ → t ≡ seal_text k typ p
unfolding seal_text
text_of_form k h p t typ e f = rw (e, f)

pub sealed_text : (k p t : List ℕ) (typ : Typ) → t ≡ seal_text k typ p → IsBytes p → length p ≤ 6000 → Sealed k (header_bytes typ) p t
sealed_text k p t typ e bytes short = rw e (written_sealed k p typ bytes short)
