-- A text is read if and only if it is an ID Token, and one that is none is refused for the first reason.
use Rattle.std.proofs.Common.{◌≡◌, ℕ, List, Result, Ok, Err, IsOk, IfOk, IfErr, ◌⊎◌, ◌∙◌}
use Rattle.serde_json.specs.Data.{Members}
use Rattle.sso_base.specs.Refusals.{first_refusal, and_then, and_then_as}
use Rattle.sso_base.proofs.Refusals.{and_then_as_ok}
use Rattle.sso_base.proofs.Answering.{if_answered, only_at, only_memory}
use Rattle.claim_set.specs.Reading.{Reads, claims_read}
use Rattle.claim_set.specs.declared.no.ClaimNo.{ClaimNo}
use Rattle.claim_set.proofs.Parsing.{read_reads, reads_read}
use Rattle.jws_compact.specs.declared.no.JwsNo.{JwsNo}
use Rattle.jws_compact.specs.Jws.{Sealed, verdict}
use Rattle.jws_compact.proofs.Opening.{verdict_sealed, sealed_verdict}
use Rattle.id_token.specs.declared.claims.IdClaims.{IdClaims}
use Rattle.id_token.specs.declared.no.IdNo.{IdNo}
use Rattle.id_token.specs.declared.no.IdNo.TheVariants.{NoMemory, Jws, Claims}
use Rattle.id_token.specs.Reading.{id_of, id_read}
use Rattle.id_token.specs.Token.{IsIdToken, id_refusals}
use Rattle.id_token.specs.declared.rules.IdRules.{IdRules}
use Rattle.id_token.specs.Judging.{IsGoodIdToken, id_judged}
use Rattle.id_token.proofs.Good.{good_passes}
use Rattle.id_token.proofs.Standing.{id_of-has, has-id_of}
use Rattle.id_token.proofs.Refused.{id_of-refused, id_of-accepted}

pub id_read-token : (k t : List ℕ) (x : IdClaims) → id_read k t ≡ Ok x → IsIdToken k t x
unfolding id_read
id_read-token k t x h =
    let u = and_then_as_ok Jws (verdict k t) _ x h in
    let ms = and_then_as_ok Claims (claims_read u.0.payload) id_of x u.2 in
    let opens = verdict_sealed k t u.0 u.1 in
    record { header = opens.0; payload = u.0.payload; claims = ms.0; sealed = opens.1; reads = read_reads u.0.payload ms.0 ms.1; has = has-id_of ms.0 x ms.2 }

-- what is read of a sealed text, and of the claims in it
sealed_read : (k h p t : List ℕ) → Sealed k h p t → id_read k t ≡ and_then_as Claims (claims_read p) id_of
unfolding id_read
sealed_read k h p t s = rw (sealed_verdict k h p t s)

sealed_claims : (k h p t : List ℕ) (ms : Members) → Sealed k h p t → Reads p ms → id_read k t ≡ id_of ms
sealed_claims k h p t ms s r = sealed_read k h p t s ∙ rw (reads_read p ms r)

pub token-id_read : (k t : List ℕ) (x : IdClaims) → IsIdToken k t x → id_read k t ≡ Ok x
token-id_read k t x i = sealed_claims k i.header i.payload t i.claims i.sealed i.reads ∙ id_of-has i.claims x i.has

pub unopened : (k t : List ℕ) (e : JwsNo) → verdict k t ≡ Err e → id_read k t ≡ Err (Jws e)
unfolding id_read
unopened k t e h = rw (h)

pub unread : (k h p t : List ℕ) (e : ClaimNo) → Sealed k h p t → claims_read p ≡ Err e → id_read k t ≡ Err (Claims e)
unread k h p t e s r = sealed_read k h p t s ∙ rw (r)

pub refused : (k h p t : List ℕ) (ms : Members) (e : IdNo) → Sealed k h p t → Reads p ms → first_refusal (id_refusals ms) ≡ Err e → id_read k t ≡ Err e
refused k h p t ms e s r f = sealed_claims k h p t ms s r ∙ id_of-refused ms e f

pub accepted : (k h p t : List ℕ) (ms : Members) → Sealed k h p t → Reads p ms → first_refusal (id_refusals ms) ≡ Ok tt → IsOk (id_read k t)
accepted k h p t ms s r f = rw (sealed_claims k h p t ms s r) (id_of-accepted ms f)

-- ---- what the calls answer

pub answered_token : (k t : List ℕ) (r : Result IdClaims IdNo) → IfOk r (λ x. id_read k t ≡ Ok x) → IfOk r (λ x. IsIdToken k t x)
answered_token k t r h = if_answered (id_read k t) (IsIdToken k t) (id_read-token k t) r h

pub accepts_token : (k t : List ℕ) (r : Result IdClaims IdNo) → IfErr r (λ e. (e ≡ NoMemory) ⊎ (id_read k t ≡ Err e)) → (x : IdClaims) → IsIdToken k t x → IfErr r (λ e. e ≡ NoMemory)
accepts_token k t r h x token = only_memory NoMemory (id_read k t) x (token-id_read k t x token) r h

pub accepts_good : (k t : List ℕ) (rules : IdRules) (at : ℕ) (r : Result IdClaims IdNo) → IfErr r (λ e. (e ≡ NoMemory) ⊎ (and_then (id_read k t) (λ x. id_judged rules x at) ≡ Err e))
    → (x : IdClaims) → IsIdToken k t x → IsGoodIdToken rules x at → IfErr r (λ e. e ≡ NoMemory)
accepts_good k t rules at (Ok y) h x token good = tt
accepts_good k t rules at (Err e) h x token good =
    let passes : and_then (id_read k t) (λ y. id_judged rules y at) ≡ Ok tt = rw (token-id_read k t x token) (good_passes rules x at good) in
    only_at NoMemory (and_then (id_read k t) (λ y. id_judged rules y at)) tt passes e h
