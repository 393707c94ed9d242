-- One text has one issuer: where that is not the client it is no request object, and where it is it is no good token.
use Rattle.std.proofs.Common.{◌≡◌, ℕ, List, None, Some, Ok, codes, refl, sym, ◌∙◌}
use Rattle.serde_json.specs.Data.{Members, no_members, string}
use Rattle.serde_json.specs.Find.{get_member}
use Rattle.claim_set.specs.Reading.{Reads, claims_text}
use Rattle.claim_set.proofs.Building.{get-put_all}
use Rattle.claim_set.proofs.Parsing.{read_reads}
use Rattle.claim_set.proofs.Written.{claims_read-claims_text}
use Rattle.jws_compact.specs.Jws.{header_bytes}
use Rattle.jws_compact.specs.declared.sealing.Typ.TheVariants.{Jwt}
use Rattle.jws_compact.proofs.Opening.{same_payload}
use Rattle.client_registry.specs.declared.records.Client.{Client}
use Rattle.client_registry.specs.Secrets.{sealing}
use Rattle.request_params.specs.declared.params.Params.{Params}
use Rattle.id_token.specs.declared.claims.IdClaims.{IdClaims}
use Rattle.id_token.specs.declared.rules.IdRules.{IdRules}
use Rattle.id_token.specs.Reading.{id_read}
use Rattle.id_token.specs.Sealing.{id_text}
use Rattle.id_token.specs.Sealing as id_sealing
use Rattle.id_token.specs.Token.{IsIdToken}
use Rattle.id_token.specs.Judging.{IsGoodIdToken}
use Rattle.id_token.proofs.Written.{id_read-id_text}
use Rattle.id_token.proofs.Tokens.{id_read-token}
use Rattle.logout_token.specs.declared.claims.LogoutClaims.{LogoutClaims}
use Rattle.logout_token.specs.LogoutToken.{logout_read, logout_text}
use Rattle.logout_token.specs.Fitting as logout_fitting
use Rattle.logout_token.specs.Token.{IsLogoutToken}
use Rattle.logout_token.specs.Judging.{IsGoodLogoutToken}
use Rattle.logout_token.proofs.Written.{logout_read-logout_text}
use Rattle.logout_token.proofs.Tokens.{IsLogoutToken-read}
use Rattle.request_object.specs.Request.{request_entries, request_members, request_text}
use Rattle.request_object.specs.Sealing as request_sealing
use Rattle.request_object.specs.Reading.{request_read}
use Rattle.request_object.specs.Object.{HasRequest, IsRequestObject}
use Rattle.request_object.proofs.Objects.{request_read-object}
use Rattle.request_object.proofs.Written.{request_text-Sealed}
use Rattle.token_kinds.proofs.Apart.{same_claims, nothing_stands}

-- ---- the issuer of a request object

same_text : (s t : List ℕ) → string s ≡ string t → s ≡ t
same_text s t h = cc

another_issuer : (client : Client) (issuer s : List ℕ) (ms ns : Members) (p : Params) → ms ≡ ns → get_member (codes "iss") ms ≡ Some (string s) → ¬ (s ≡ client.id) → HasRequest client issuer ns p → ⊥
another_issuer client issuer s ms ns p same is other has =
    let there : get_member (codes "iss") ns ≡ Some (string s) = rw (← same) is in
    let both : string s ≡ string client.id = rw (there) at has.from_client in
    other (same_text s client.id both)

module _ (client : Client) (issuer : List ℕ) where
  -- ---- a token of another issuer is no request object

  pub id_no_request : (k t : List ℕ) (x : IdClaims) (p : Params) → ¬ (x.iss ≡ client.id) → IsIdToken k t x → IsRequestObject client issuer t p → ⊥
  id_no_request k t x p other id object =
      let payload = same_payload k object.sealed.secret id.header object.header id.payload object.payload t id.sealed object.sealed.sealed in
      let claims = same_claims id.claims object.claims id.payload object.payload payload id.reads object.reads in
      another_issuer client issuer x.iss id.claims object.claims p claims id.has.iss other object.has

  pub read_id_no_request : (k t : List ℕ) (x : IdClaims) (p : Params) → ¬ (x.iss ≡ client.id) → id_read k t ≡ Ok x → request_read client issuer t ≡ Ok p → ⊥
  read_id_no_request k t x p other id object = id_no_request k t x p other (id_read-token k t x id) (request_read-object client issuer t p object)

  pub sealed_id_no_request : (k : List ℕ) (x : IdClaims) (p : Params) → ¬ (x.iss ≡ client.id) → id_sealing.IsSealable x → request_read client issuer (id_text k x) ≡ Ok p → ⊥
  sealed_id_no_request k x p other s read = read_id_no_request k (id_text k x) x p other (id_read-id_text k x s) read

  pub logout_no_request : (k t : List ℕ) (y : LogoutClaims) (p : Params) → ¬ (y.iss ≡ client.id) → IsLogoutToken k t y → IsRequestObject client issuer t p → ⊥
  logout_no_request k t y p other out object =
      let payload = same_payload k object.sealed.secret out.header object.header out.payload object.payload t out.sealed object.sealed.sealed in
      let claims = same_claims out.claims object.claims out.payload object.payload payload out.reads object.reads in
      another_issuer client issuer y.iss out.claims object.claims p claims out.has.iss other object.has

  pub read_logout_no_request : (k t : List ℕ) (y : LogoutClaims) (p : Params) → ¬ (y.iss ≡ client.id) → logout_read k t ≡ Ok y → request_read client issuer t ≡ Ok p → ⊥
  read_logout_no_request k t y p other out object = logout_no_request k t y p other (IsLogoutToken-read k t y out) (request_read-object client issuer t p object)

  pub sealed_logout_no_request : (k : List ℕ) (y : LogoutClaims) (p : Params) → ¬ (y.iss ≡ client.id) → logout_fitting.IsSealable y → request_read client issuer (logout_text k y) ≡ Ok p → ⊥
  sealed_logout_no_request k y p other s read = read_logout_no_request k (logout_text k y) y p other (logout_read-logout_text k y s) read

  -- ---- a request object is no good token of another issuer

  pub no_good_id : (l t : List ℕ) (p : Params) (x : IdClaims) (rules : IdRules) (at : ℕ) → ¬ (rules.issuer ≡ client.id) → IsRequestObject client issuer t p → IsIdToken l t x → IsGoodIdToken rules x at → ⊥
  no_good_id l t p x rules at other object id good = id_no_request l t x p (λ same. other (sym good.from_issuer ∙ same)) id object

  pub no_good_read_id : (l t : List ℕ) (p : Params) (x : IdClaims) (rules : IdRules) (at : ℕ) → ¬ (rules.issuer ≡ client.id) → request_read client issuer t ≡ Ok p → id_read l t ≡ Ok x → IsGoodIdToken rules x at → ⊥
  no_good_read_id l t p x rules at other object id good = no_good_id l t p x rules at other (request_read-object client issuer t p object) (id_read-token l t x id) good

  pub no_good_logout : (l t : List ℕ) (p : Params) (y : LogoutClaims) (from whom : List ℕ) (at : ℕ) → ¬ (from ≡ client.id) → IsRequestObject client issuer t p → IsLogoutToken l t y → IsGoodLogoutToken from whom y at → ⊥
  no_good_logout l t p y from whom at other object out good = logout_no_request l t y p (λ same. other (sym good.from_issuer ∙ same)) out object

  pub no_good_read_logout : (l t : List ℕ) (p : Params) (y : LogoutClaims) (from whom : List ℕ) (at : ℕ) → ¬ (from ≡ client.id) → request_read client issuer t ≡ Ok p → logout_read l t ≡ Ok y → IsGoodLogoutToken from whom y at → ⊥
  no_good_read_logout l t p y from whom at other object out good = no_good_logout l t p y from whom at other (request_read-object client issuer t p object) (IsLogoutToken-read l t y out) good

  -- ---- what was sealed as a request object is not read as a token, whatever the key

  pub reads_request : (p : Params) → request_sealing.IsSealable client issuer p → Reads (claims_text (request_members client issuer p)) (request_members client issuer p)
  reads_request p s = read_reads (claims_text (request_members client issuer p)) (request_members client issuer p) (claims_read-claims_text (request_members client issuer p) s.fits)

  no_sub : (p : Params) → get_member (codes "sub") (request_members client issuer p) ≡ None
  unfolding request_members
  no_sub p = get-put_all (codes "sub") (request_entries client issuer p) no_members

  no_jti : (p : Params) → get_member (codes "jti") (request_members client issuer p) ≡ None
  unfolding request_members
  no_jti p = get-put_all (codes "jti") (request_entries client issuer p) no_members

  pub sealed_request_no_id : (l : List ℕ) (p : Params) (x : IdClaims) → request_sealing.IsSealable client issuer p → id_read l (request_text client issuer p) ≡ Ok x → ⊥
  sealed_request_no_id l p x s read =
      let id = id_read-token l (request_text client issuer p) x read in
      let payload = same_payload (sealing client) l (header_bytes Jwt) id.header (claims_text (request_members client issuer p)) id.payload (request_text client issuer p) (request_text-Sealed client issuer p s) id.sealed in
      let claims = same_claims (request_members client issuer p) id.claims (claims_text (request_members client issuer p)) id.payload payload (reads_request p s) id.reads in
      nothing_stands (codes "sub") x.sub (Some x.sub) (request_members client issuer p) id.claims claims (no_sub p) id.has.sub refl

  pub sealed_request_no_logout : (l : List ℕ) (p : Params) (y : LogoutClaims) → request_sealing.IsSealable client issuer p → logout_read l (request_text client issuer p) ≡ Ok y → ⊥
  sealed_request_no_logout l p y s read =
      let out = IsLogoutToken-read l (request_text client issuer p) y read in
      let payload = same_payload (sealing client) l (header_bytes Jwt) out.header (claims_text (request_members client issuer p)) out.payload (request_text client issuer p) (request_text-Sealed client issuer p s) out.sealed in
      let claims = same_claims (request_members client issuer p) out.claims (claims_text (request_members client issuer p)) out.payload payload (reads_request p s) out.reads in
      nothing_stands (codes "jti") y.jti (Some y.jti) (request_members client issuer p) out.claims claims (no_jti p) out.has.jti refl
