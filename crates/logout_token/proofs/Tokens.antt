-- Texts as logout tokens: what is read is sealed and stands there, and what is refused is refused for the first reason.
use Rattle.std.proofs.Common.{◌≡◌, ℕ, List, Result, Ok, Err, IsOk, IfOk, IfErr, ◌⊎◌, refl}
use Rattle.std.specs.Prelude.{Option}
use Rattle.serde_json.specs.Data.{Members}
use Rattle.sso_base.specs.Refusals.{first_refusal, and_then_as}
use Rattle.sso_base.proofs.Refusals.{and_then_as_ok}
use Rattle.sso_base.proofs.Answering.{if_answered, only_memory}
use Rattle.claim_set.specs.Reading.{Reads, claims_read}
use Rattle.claim_set.specs.declared.no.ClaimNo.{ClaimNo}
use Rattle.claim_set.proofs.Parsing.{read_reads, reads_read}
use Rattle.jws_compact.specs.declared.no.JwsNo.{JwsNo}
use Rattle.jws_compact.specs.Jws.{Sealed, typ_of, verdict}
use Rattle.jws_compact.proofs.Opening.{sealed_verdict, verdict_sealed}
use Rattle.logout_token.specs.declared.claims.LogoutClaims.{LogoutClaims}
use Rattle.logout_token.specs.declared.no.LogoutNo.{LogoutNo}
use Rattle.logout_token.specs.declared.no.LogoutNo.TheVariants.{NoMemory, Jws, Claims}
use Rattle.logout_token.specs.LogoutToken.{logout_of, logout_read}
use Rattle.logout_token.specs.Token.{IsLogoutToken, IsLogoutTyp, logout_refusals}
use Rattle.logout_token.proofs.Standing.{logout_of-has, has-logout_of}
use Rattle.logout_token.proofs.Refused.{logout_of-refused, logout_of-accepted}

-- ---- a sealed text

module _ (k h p t : List ℕ) (s : Sealed k h p t) where
  opens_as : logout_read k t ≡ and_then_as Claims (claims_read p) (logout_of (typ_of h))
  unfolding logout_read
  opens_as = rw (sealed_verdict k h p t s) refl

  pub logout_read-unread : (e : ClaimNo) → claims_read p ≡ Err e → logout_read k t ≡ Err (Claims e)
  logout_read-unread e is = rw (opens_as, is) refl

  pub logout_read-Reads : (ms : Members) → Reads p ms → logout_read k t ≡ logout_of (typ_of h) ms
  logout_read-Reads ms reads = rw (opens_as, reads_read p ms reads) refl

  pub logout_read-refused : (ms : Members) (e : LogoutNo) → Reads p ms → first_refusal (logout_refusals (typ_of h) ms) ≡ Err e → logout_read k t ≡ Err e
  logout_read-refused ms e reads is = rw (logout_read-Reads ms reads) (logout_of-refused (typ_of h) ms e is)

  pub logout_read-accepted : (ms : Members) → Reads p ms → first_refusal (logout_refusals (typ_of h) ms) ≡ Ok tt → IsOk (logout_read k t)
  logout_read-accepted ms reads is = rw (logout_read-Reads ms reads) (logout_of-accepted (typ_of h) ms is)

pub logout_read-unopened : (k t : List ℕ) (e : JwsNo) → verdict k t ≡ Err e → logout_read k t ≡ Err (Jws e)
unfolding logout_read
logout_read-unopened k t e is = rw is

-- ---- what is read is a logout token, and what is one is read

same_typ : (a b : Option (List ℕ)) → a ≡ b → IsLogoutTyp a → IsLogoutTyp b
same_typ a b e h = rw (e) at h

pub IsLogoutToken-read : (k t : List ℕ) (x : LogoutClaims) → logout_read k t ≡ Ok x → IsLogoutToken k t x
unfolding logout_read
IsLogoutToken-read k t x h =
    let u = and_then_as_ok Jws (verdict k t) _ x h in
    let ms = and_then_as_ok Claims (claims_read u.0.payload) (logout_of u.0.typ) x u.2 in
    let opens = verdict_sealed k t u.0 u.1 in
    let stands = has-logout_of u.0.typ ms.0 x ms.2 in
    record {
      header = opens.0;
      payload = u.0.payload;
      claims = ms.0;
      sealed = opens.1;
      kind = same_typ u.0.typ (typ_of opens.0) opens.2 stands.0;
      reads = read_reads u.0.payload ms.0 ms.1;
      has = stands.1;
    }

pub logout_read-IsLogoutToken : (k t : List ℕ) (x : LogoutClaims) → IsLogoutToken k t x → logout_read k t ≡ Ok x
logout_read-IsLogoutToken k t x is =
    rw (logout_read-Reads k is.header is.payload t is.sealed is.claims is.reads) (logout_of-has is.claims x is.has (typ_of is.header) is.kind)

-- ---- what the call answers

pub answered_token : (k t : List ℕ) (r : Result LogoutClaims LogoutNo) → IfOk r (λ x. logout_read k t ≡ Ok x) → IfOk r (λ x. IsLogoutToken k t x)
answered_token k t r h = if_answered (logout_read k t) (IsLogoutToken k t) (IsLogoutToken-read k t) r h

pub accepts_token : (k t : List ℕ) (r : Result LogoutClaims LogoutNo) → IfErr r (λ e. (e ≡ NoMemory) ⊎ (logout_read k t ≡ Err e)) → (x : LogoutClaims) → IsLogoutToken k t x → IfErr r (λ e. e ≡ NoMemory)
accepts_token k t r h x token = only_memory NoMemory (logout_read k t) x (logout_read-IsLogoutToken k t x token) r h
