-- The claim set that is written for parameters has them.
use Rattle.std.proofs.Common.{◌≡◌, ℕ, List, None, Ok, codes, refl}
use Rattle.serde_json.specs.Data.{no_members}
use Rattle.sso_base.proofs.Decided.{same}
use Rattle.claim_set.specs.Reading.{claims_read, claims_text}
use Rattle.claim_set.proofs.Building.{get-put_all}
use Rattle.claim_set.proofs.KindLaws.{or_else_none}
use Rattle.jws_compact.specs.Jws.{Sealed, seal_text}
use Rattle.jws_compact.specs.declared.sealing.Typ.TheVariants.{Jwt}
use Rattle.client_registry.specs.declared.records.Client.{Client}
use Rattle.client_registry.specs.Secrets.{sealing}
use Rattle.client_registry.proofs.SecretFacts.{seals_with_its_own}
use Rattle.client_keys.specs.Opening.{SealedFor}
use Rattle.client_keys.proofs.Opened.{sealed_opens}
use Rattle.request_params.specs.declared.params.Params.{Params}
use Rattle.request_object.specs.Request.{request_entries, request_members, request_text}
use Rattle.request_object.specs.Reading.{digits_in, object_text, request_read}
use Rattle.request_object.specs.Object.{HasRequest}
use Rattle.request_object.proofs.Forms.{written_form}
use Rattle.request_object.proofs.Standing.{request_of-has}

module _ (client : Client) (issuer : List ℕ) (p : Params) (request : p.request ≡ None) (request_uri : p.request_uri ≡ None) (registration : p.registration ≡ None) where
  pub has-request_members : HasRequest client issuer (request_members client issuer p) p
  unfolding request_members
  has-request_members = record {
    from_client = rw (get-put_all (codes "iss") (request_entries client issuer p) no_members) refl;
    for_issuer = rw (get-put_all (codes "aud") (request_entries client issuer p) no_members) (_, refl, rw (same issuer issuer refl) refl);
    response_type = rw (get-put_all (codes "response_type") (request_entries client issuer p) no_members, or_else_none) refl;
    client_id = rw (get-put_all (codes "client_id") (request_entries client issuer p) no_members, or_else_none) refl;
    redirect_uri = rw (get-put_all (codes "redirect_uri") (request_entries client issuer p) no_members, or_else_none) refl;
    scope = rw (get-put_all (codes "scope") (request_entries client issuer p) no_members, or_else_none) refl;
    state = rw (get-put_all (codes "state") (request_entries client issuer p) no_members, or_else_none) refl;
    nonce = rw (get-put_all (codes "nonce") (request_entries client issuer p) no_members, or_else_none) refl;
    response_mode = rw (get-put_all (codes "response_mode") (request_entries client issuer p) no_members, or_else_none) refl;
    prompt = rw (get-put_all (codes "prompt") (request_entries client issuer p) no_members, or_else_none) refl;
    max_age = rw (get-put_all (codes "max_age") (request_entries client issuer p) no_members, or_else_none) (written_form digits_in p.max_age);
    claims = rw (get-put_all (codes "claims") (request_entries client issuer p) no_members, or_else_none) (written_form object_text p.claims);
    registration = rw (get-put_all (codes "registration") (request_entries client issuer p) no_members, registration) refl;
    no_request = get-put_all (codes "request") (request_entries client issuer p) no_members;
    no_request_uri = get-put_all (codes "request_uri") (request_entries client issuer p) no_members;
    request = request;
    request_uri = request_uri;
  }

  pub request_read-sealed : (h q t : List ℕ) → SealedFor client h q t → claims_read q ≡ Ok (request_members client issuer p) → request_read client issuer t ≡ Ok p
  unfolding request_read
  request_read-sealed h q t sealed reads = rw (sealed_opens client h q t sealed, reads) (request_of-has client issuer (request_members client issuer p) p has-request_members)

-- ---- what `seal_request` answers, where the key is the secret that the client seals with

pub text_of_payload : (client : Client) (issuer : List ℕ) (p : Params) (k q t : List ℕ) → k ≡ sealing client → q ≡ claims_text (request_members client issuer p) → t ≡ seal_text k Jwt q → t ≡ request_text client issuer p
unfolding request_text
text_of_payload client issuer p k q t key payload text = rw (text, key, payload)

pub read_of_payload : (client : Client) (issuer : List ℕ) (p : Params) → p.request ≡ None → p.request_uri ≡ None → p.registration ≡ None → (k h q t : List ℕ) → k ≡ sealing client → claims_read q ≡ Ok (request_members client issuer p) → Sealed k h q t
    → request_read client issuer t ≡ Ok p
read_of_payload client issuer p request request_uri registration k h q t key reads sealed = request_read-sealed client issuer p request request_uri registration h q t (record { secret = sealing client; own = seals_with_its_own client; sealed = rw (key) at sealed }) reads
