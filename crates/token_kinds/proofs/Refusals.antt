-- Under a secret of the client, a text of one kind is refused as one of another for the first reason.
use Rattle.std.proofs.Common.{◌≡◌, ℕ, List, Bool, true, false, Option, Some, None, option_map, Err, codes, refl}
use Rattle.std.specs.Str.{bytes_eq}
use Rattle.std.proofs.lemmas.Slice.Eq.{bytes_eq-Decides}
use Rattle.serde_json.specs.Data.{no_members, string}
use Rattle.serde_json.specs.Find.{get_member, as_str}
use Rattle.sso_base.specs.Refusals.{first_refusal}
use Rattle.claim_set.specs.Building.{HasNone, audience, found}
use Rattle.claim_set.specs.Kinds.{is_wrong, data_texts}
use Rattle.claim_set.specs.Reading.{claims_text}
use Rattle.claim_set.proofs.Building.{get-put_all}
use Rattle.claim_set.proofs.KindLaws.{or_else_none}
use Rattle.claim_set.proofs.Parsing.{read_reads}
use Rattle.claim_set.proofs.PutClaims.{data_texts-audience}
use Rattle.claim_set.proofs.Written.{claims_read-claims_text}
use Rattle.jws_compact.specs.Jws.{header_bytes, typ_of}
use Rattle.jws_compact.specs.declared.sealing.Typ.TheVariants.{Jwt, LogoutJwt}
use Rattle.jws_compact.proofs.Written.{typ_of-header_bytes}
use Rattle.client_registry.specs.declared.records.Client.{Client}
use Rattle.client_registry.specs.Secrets.{sealing, has_secret}
use Rattle.request_params.specs.declared.params.Params.{Params}
use Rattle.id_token.specs.declared.claims.IdClaims.{IdClaims}
use Rattle.id_token.specs.declared.no.IdNo.TheVariants as id_no
use Rattle.id_token.specs.Claims.{id_entries, id_members}
use Rattle.id_token.specs.Reading.{id_read}
use Rattle.id_token.specs.Sealing.{id_text}
use Rattle.id_token.specs.Sealing as id_sealing
use Rattle.id_token.specs.Token.{id_refusals}
use Rattle.id_token.proofs.Tokens as id_tokens
use Rattle.id_token.proofs.Written.{id_text-Sealed}
use Rattle.logout_token.specs.declared.claims.LogoutClaims.{LogoutClaims}
use Rattle.logout_token.specs.declared.no.LogoutNo.TheVariants as logout_no
use Rattle.logout_token.specs.LogoutToken.{logout_entries, logout_members, logout_read, logout_text}
use Rattle.logout_token.specs.Fitting as logout_fitting
use Rattle.logout_token.specs.Token.{logout_refusals}
use Rattle.logout_token.proofs.Tokens as logout_tokens
use Rattle.logout_token.proofs.Written.{logout_text-Sealed}
use Rattle.request_object.specs.declared.no.ObjNo.TheVariants as obj_no
use Rattle.request_object.specs.Request.{request_entries, request_members, request_text}
use Rattle.request_object.specs.Sealing as request_sealing
use Rattle.request_object.specs.Reading.{request_read}
use Rattle.request_object.specs.Object.{request_refusals}
use Rattle.request_object.proofs.Objects as objects
use Rattle.request_object.proofs.Written.{request_text-Sealed}
use Rattle.token_kinds.specs.Parameters.{parameter_names}
use Rattle.token_kinds.proofs.Issued.{reads_request}

-- ---- claims of the right kind, and another text

text_is_right : (o : Option (List ℕ)) → is_wrong as_str (option_map string o) ≡ false
text_is_right None = refl
text_is_right (Some s) = refl

audience_is_right : (ts : List (List ℕ)) → is_wrong data_texts (Some (audience ts)) ≡ false
audience_is_right ts = rw (data_texts-audience ts) refl

differs : (s t : List ℕ) → ¬ (s ≡ t) → bytes_eq s t ≡ false
differs s t other = at (bytes_eq s t) refl where
  at : (b : Bool) → bytes_eq s t ≡ b → b ≡ false
  at true is = absurd (other ((bytes_eq-Decides s t).0 is))
  at false is = refl

-- ---- a request object

module _ (client : Client) (issuer : List ℕ) (p : Params) where
  stands : (q : List ℕ) → get_member q (request_members client issuer p) ≡ found q (request_entries client issuer p) None
  unfolding request_members
  stands q = get-put_all q (request_entries client issuer p) no_members

  nonce_is : get_member (codes "nonce") (request_members client issuer p) ≡ option_map string p.nonce
  nonce_is = rw (stands (codes "nonce"), or_else_none) refl

  no_subject : first_refusal (id_refusals (request_members client issuer p)) ≡ Err (id_no.Missing (codes "sub"))
  no_subject = rw (
    stands (codes "at_hash"),
    stands (codes "aud"),
    stands (codes "auth_time"),
    stands (codes "azp"),
    stands (codes "c_hash"),
    stands (codes "exp"),
    stands (codes "iat"),
    stands (codes "iss"),
    nonce_is,
    text_is_right p.nonce,
    stands (codes "sid"),
    stands (codes "sub"),
  ) refl

  no_moment : first_refusal (logout_refusals (typ_of (header_bytes Jwt)) (request_members client issuer p)) ≡ Err (logout_no.Missing (codes "iat"))
  no_moment = rw (
    stands (codes "aud"),
    stands (codes "exp"),
    stands (codes "iat"),
    stands (codes "iss"),
    stands (codes "jti"),
    stands (codes "sid"),
    stands (codes "sub"),
    typ_of-header_bytes Jwt,
  ) refl

  pub request_without_subject : request_sealing.IsSealable client issuer p → id_read (sealing client) (request_text client issuer p) ≡ Err (id_no.Missing (codes "sub"))
  request_without_subject s =
      id_tokens.refused (sealing client) (header_bytes Jwt) (claims_text (request_members client issuer p)) (request_text client issuer p) (request_members client issuer p) (id_no.Missing (codes "sub"))
      (request_text-Sealed client issuer p s) (reads_request client issuer p s) no_subject

  pub request_without_moment : request_sealing.IsSealable client issuer p → logout_read (sealing client) (request_text client issuer p) ≡ Err (logout_no.Missing (codes "iat"))
  request_without_moment s =
      logout_tokens.logout_read-refused (sealing client) (header_bytes Jwt) (claims_text (request_members client issuer p)) (request_text client issuer p) (request_text-Sealed client issuer p s) (request_members client issuer p) (logout_no.Missing (codes "iat"))
      (reads_request client issuer p s) no_moment

-- ---- a logout token

module _ (client : Client) (issuer : List ℕ) (y : LogoutClaims) (other : ¬ (y.iss ≡ client.id)) where
  logout_stands : (q : List ℕ) → get_member q (logout_members y) ≡ found q (logout_entries y) None
  unfolding logout_members
  logout_stands q = get-put_all q (logout_entries y) no_members

  of_the_provider : first_refusal (request_refusals client issuer (logout_members y)) ≡ Err obj_no.Issuer
  of_the_provider = rw (
    logout_stands (codes "aud"),
    audience_is_right y.aud,
    logout_stands (codes "claims"),
    logout_stands (codes "client_id"),
    logout_stands (codes "iss"),
    logout_stands (codes "max_age"),
    logout_stands (codes "nonce"),
    logout_stands (codes "prompt"),
    logout_stands (codes "redirect_uri"),
    logout_stands (codes "registration"),
    logout_stands (codes "request"),
    logout_stands (codes "request_uri"),
    logout_stands (codes "response_mode"),
    logout_stands (codes "response_type"),
    logout_stands (codes "scope"),
    logout_stands (codes "state"),
    differs y.iss client.id other,
  ) refl

  pub logout_of_the_provider : (k : List ℕ) → has_secret k client ≡ true → logout_fitting.IsSealable y → request_read client issuer (logout_text k y) ≡ Err obj_no.Issuer
  logout_of_the_provider k own s =
      objects.refused client issuer (header_bytes LogoutJwt) (claims_text (logout_members y)) (logout_text k y) (logout_members y) obj_no.Issuer (record { secret = k; own = own; sealed = logout_text-Sealed k y s })
      (read_reads (claims_text (logout_members y)) (logout_members y) (claims_read-claims_text (logout_members y) s.fits)) of_the_provider

-- ---- an ID Token

module _ (client : Client) (issuer : List ℕ) (x : IdClaims) (other : ¬ (x.iss ≡ client.id)) (s : id_sealing.IsSealable x) (none : HasNone parameter_names x.more) where
  id_stands : (q : List ℕ) → get_member q (id_members x) ≡ found q (id_entries x) (get_member q x.more)
  unfolding id_members
  id_stands q = get-put_all q (id_entries x) x.more

  id_nonce : get_member (codes "nonce") (id_members x) ≡ option_map string x.nonce
  id_nonce = rw (id_stands (codes "nonce"), s.others.1.1.1.1.1.1.1.1.0, or_else_none) refl

  id_of_the_provider : first_refusal (request_refusals client issuer (id_members x)) ≡ Err obj_no.Issuer
  id_of_the_provider = rw (
    id_stands (codes "aud"),
    audience_is_right x.aud,
    id_stands (codes "claims"),
    none.0,
    id_stands (codes "client_id"),
    none.1.0,
    id_stands (codes "iss"),
    id_stands (codes "max_age"),
    none.1.1.0,
    id_nonce,
    text_is_right x.nonce,
    id_stands (codes "prompt"),
    none.1.1.1.0,
    id_stands (codes "redirect_uri"),
    none.1.1.1.1.0,
    id_stands (codes "registration"),
    none.1.1.1.1.1.0,
    id_stands (codes "request"),
    none.1.1.1.1.1.1.0,
    id_stands (codes "request_uri"),
    none.1.1.1.1.1.1.1.0,
    id_stands (codes "response_mode"),
    none.1.1.1.1.1.1.1.1.0,
    id_stands (codes "response_type"),
    none.1.1.1.1.1.1.1.1.1.0,
    id_stands (codes "scope"),
    none.1.1.1.1.1.1.1.1.1.1.0,
    id_stands (codes "state"),
    none.1.1.1.1.1.1.1.1.1.1.1.0,
    differs x.iss client.id other,
  ) refl

  pub id_token_of_the_provider : (k : List ℕ) → has_secret k client ≡ true → request_read client issuer (id_text k x) ≡ Err obj_no.Issuer
  id_token_of_the_provider k own =
      objects.refused client issuer (header_bytes Jwt) (claims_text (id_members x)) (id_text k x) (id_members x) obj_no.Issuer (record { secret = k; own = own; sealed = id_text-Sealed k x s })
      (read_reads (claims_text (id_members x)) (id_members x) (claims_read-claims_text (id_members x) s.fits)) id_of_the_provider
