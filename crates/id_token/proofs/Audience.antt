-- A text that is read as an ID Token names its audience.
use Rattle.std.proofs.Common.{◌≡◌, ℕ, List, Option, Some, option_and_then, Result, Ok, codes, ap, ◌∙◌}
use Rattle.serde_json.specs.Data.{Members}
use Rattle.serde_json.specs.Find.{get_member}
use Rattle.sso_base.proofs.Refusals.{and_then_as_ok}
use Rattle.claim_set.specs.Kinds.{data_texts}
use Rattle.claim_set.specs.Reading.{claims_read}
use Rattle.claim_set.specs.declared.no.ClaimNo.{ClaimNo}
use Rattle.claim_set.proofs.KindLaws.{found_of_kind}
use Rattle.jws_compact.specs.Jws.{verdict}
use Rattle.jws_compact.proofs.Opening.{verdict_payload}
use Rattle.id_token.specs.declared.claims.IdClaims.{IdClaims}
use Rattle.id_token.specs.declared.no.IdNo.TheVariants.{Jws, Claims}
use Rattle.id_token.specs.Reading.{texts_found, aud_in, audience_in, id_of, id_read}
use Rattle.id_token.proofs.Standing.{has-id_of}

pub id_read-audience : (k t : List ℕ) (x : IdClaims) → id_read k t ≡ Ok x → audience_in t ≡ Some x.aud
unfolding id_read audience_in
id_read-audience k t x h =
    let u = and_then_as_ok Jws (verdict k t) _ x h in
    let ms = and_then_as_ok Claims (claims_read u.0.payload) id_of x u.2 in
    let has = has-id_of ms.0 x ms.2 in
    let P : Option (List ℕ) → Option (List (List ℕ)) = λ o. option_and_then (λ p. aud_in (claims_read p)) o in
    let A : Result Members ClaimNo → Option (List (List ℕ)) = λ r. aud_in r in
    let F : Result (Option (List (List ℕ))) ClaimNo → Option (List (List ℕ)) = λ r. texts_found r in
    ap P (verdict_payload k t u.0 u.1) ∙ ap A ms.1 ∙ ap F (found_of_kind (codes "aud") data_texts (get_member (codes "aud") ms.0) x.aud has.aud)
