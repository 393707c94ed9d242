-- A text is read if and only if it is a request object, and one that is none is refused for the first reason.
use Rattle.std.proofs.Common.{◌≡◌, ℕ, List, Result, Ok, Err, IsOk, IfOk, IfErr, ◌⊎◌, ◌∙◌}
use Rattle.serde_json.specs.Data.{Members}
use Rattle.sso_base.specs.Refusals.{first_refusal, and_then_as}
use Rattle.sso_base.proofs.Refusals.{and_then_as_ok}
use Rattle.sso_base.proofs.Answering.{if_answered, only_memory}
use Rattle.claim_set.specs.Reading.{Reads, claims_read}
use Rattle.claim_set.specs.declared.no.ClaimNo.{ClaimNo}
use Rattle.claim_set.proofs.Parsing.{read_reads, reads_read}
use Rattle.jws_compact.specs.declared.no.JwsNo.{JwsNo}
use Rattle.client_registry.specs.declared.records.Client.{Client}
use Rattle.client_keys.specs.Opening.{SealedFor, verdict_for}
use Rattle.client_keys.proofs.Opened.{sealed_opens, opened_is_sealed}
use Rattle.request_params.specs.declared.params.Params.{Params}
use Rattle.request_object.specs.declared.no.ObjNo.{ObjNo}
use Rattle.request_object.specs.declared.no.ObjNo.TheVariants.{NoMemory, Jws, Claims}
use Rattle.request_object.specs.Reading.{request_of, request_read}
use Rattle.request_object.specs.Object.{IsRequestObject, request_refusals}
use Rattle.request_object.proofs.Standing.{request_of-has, has-request_of}
use Rattle.request_object.proofs.Refused.{request_of-refused, request_of-accepted}

module _ (client : Client) (issuer : List ℕ) where
  pub request_read-object : (t : List ℕ) (p : Params) → request_read client issuer t ≡ Ok p → IsRequestObject client issuer t p
  unfolding request_read
  request_read-object t p h =
      let u = and_then_as_ok Jws (verdict_for client t) _ p h in
      let ms = and_then_as_ok Claims (claims_read u.0.payload) (request_of client issuer) p u.2 in
      let opens = opened_is_sealed client t u.0 u.1 in
      record { header = opens.0; payload = u.0.payload; claims = ms.0; sealed = opens.1; reads = read_reads u.0.payload ms.0 ms.1; has = has-request_of client issuer ms.0 p ms.2 }

  -- what is read of a sealed text, and of the claims in it
  sealed_read : (h p t : List ℕ) → SealedFor client h p t → request_read client issuer t ≡ and_then_as Claims (claims_read p) (request_of client issuer)
  unfolding request_read
  sealed_read h p t s = rw (sealed_opens client h p t s)

  pub sealed_claims : (h p t : List ℕ) (ms : Members) → SealedFor client h p t → Reads p ms → request_read client issuer t ≡ request_of client issuer ms
  sealed_claims h p t ms s r = sealed_read h p t s ∙ rw (reads_read p ms r)

  pub object-request_read : (t : List ℕ) (p : Params) → IsRequestObject client issuer t p → request_read client issuer t ≡ Ok p
  object-request_read t p i = sealed_claims i.header i.payload t i.claims i.sealed i.reads ∙ request_of-has client issuer i.claims p i.has

  pub unopened : (t : List ℕ) (e : JwsNo) → verdict_for client t ≡ Err e → request_read client issuer t ≡ Err (Jws e)
  unfolding request_read
  unopened t e h = rw (h)

  pub unread : (h p t : List ℕ) (e : ClaimNo) → SealedFor client h p t → claims_read p ≡ Err e → request_read client issuer t ≡ Err (Claims e)
  unread h p t e s r = sealed_read h p t s ∙ rw (r)

  pub refused : (h p t : List ℕ) (ms : Members) (e : ObjNo) → SealedFor client h p t → Reads p ms → first_refusal (request_refusals client issuer ms) ≡ Err e → request_read client issuer t ≡ Err e
  refused h p t ms e s r f = sealed_claims h p t ms s r ∙ request_of-refused client issuer ms e f

  pub accepted : (h p t : List ℕ) (ms : Members) → SealedFor client h p t → Reads p ms → first_refusal (request_refusals client issuer ms) ≡ Ok tt → IsOk (request_read client issuer t)
  accepted h p t ms s r f = rw (sealed_claims h p t ms s r) (request_of-accepted client issuer ms f)

  -- ---- what the call answers

  pub answered_object : (t : List ℕ) (r : Result Params ObjNo) → IfOk r (λ p. request_read client issuer t ≡ Ok p) → IfOk r (λ p. IsRequestObject client issuer t p)
  answered_object t r h = if_answered (request_read client issuer t) (IsRequestObject client issuer t) (request_read-object t) r h

  pub accepts_object : (t : List ℕ) (r : Result Params ObjNo) → IfErr r (λ e. (e ≡ NoMemory) ⊎ (request_read client issuer t ≡ Err e)) → (p : Params) → IsRequestObject client issuer t p → IfErr r (λ e. e ≡ NoMemory)
  accepts_object t r h p object = only_memory NoMemory (request_read client issuer t) p (object-request_read t p object) r h
