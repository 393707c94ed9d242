-- A text is refused as unsealed if and only if it is not sealed under the key; so one that is read is sealed.
use Rattle.std.proofs.Common.{◌≡◌, ◌↔◌, ℕ, List, Bool, true, false, Result, Ok, Err, refl, sym, ap, ◌∙◌}
use Rattle.serde_json.specs.Data.{Members}
use Rattle.sso_base.specs.Refusals.{and_then_as}
use Rattle.sso_base.proofs.Refusals.{none_among}
use Rattle.claim_set.specs.declared.no.ClaimNo.{ClaimNo}
use Rattle.claim_set.specs.Reading.{claims_read}
use Rattle.claim_set.proofs.KindLaws.{refused_of}
use Rattle.jws_compact.specs.declared.no.JwsNo.{JwsNo}
use Rattle.jws_compact.specs.declared.unsealing.Unsealed.{Unsealed}
use Rattle.jws_compact.specs.Jws.{Opens, opened, verdict}
use Rattle.jws_compact.proofs.Readers.{reader_reason, reader_refuses}
use Rattle.id_token.specs.declared.claims.IdClaims.{IdClaims}
use Rattle.id_token.specs.declared.no.IdNo.{IdNo}
use Rattle.id_token.specs.declared.no.IdNo.TheVariants.{Jws, Claims}
use Rattle.id_token.specs.Reading.{id_of, id_read}
use Rattle.id_token.specs.Token.{id_refusals}
use Rattle.id_token.proofs.Refused.{refusals_of}
use Rattle.id_token.proofs.Tokens.{id_read-token}

-- ---- a refusal of claims is none of a sealed text

abbrev is_unsealed : IdNo → Bool
is_unsealed (Jws e) = true
is_unsealed e = false

not_of_claims : (r : Result Members ClaimNo) (e : JwsNo) → and_then_as Claims r id_of ≡ Err (Jws e) → ⊥
not_of_claims (Err n) e h = cc
not_of_claims (Ok ms) e h =
    none_among is_unsealed (id_refusals ms) (Jws e) (refl, (refl, (refl, (refl, (refl, (refl, (refl, (refl, (refl, (refl, (refl, (refl, (refl, (refl, (refl, (refl, tt)))))))))))))))) refl
    (sym (refusals_of ms) ∙ ap refused_of h)

-- ---- the reason is that of the sealed text; what is refused so is not sealed, and what is not sealed is refused so

abbrev inside : Unsealed → Result IdClaims IdNo
inside u = and_then_as Claims (claims_read u.payload) id_of

one_reason : (d e : JwsNo) → Jws d ≡ Jws e → d ≡ e
one_reason d e h = cc

apart : (u : Unsealed) (e : JwsNo) → inside u ≡ Err (Jws e) → ⊥
apart u e h = not_of_claims (claims_read u.payload) e h

pub unsealed_reason : (k t : List ℕ) (e : JwsNo) → (id_read k t ≡ Err (Jws e)) ↔ (verdict k t ≡ Err e)
unfolding id_read
unsealed_reason k t e = reader_reason Jws inside one_reason apart k t e

pub unsealed_refused : (k t : List ℕ) → ((e : JwsNo) × (id_read k t ≡ Err (Jws e))) ↔ ((u : Unsealed) → ¬ Opens k t u)
unfolding id_read
unsealed_refused k t = reader_refuses Jws inside one_reason apart k t

-- ---- what is read is sealed

pub read_is_sealed : (k t : List ℕ) (x : IdClaims) → id_read k t ≡ Ok x → (u : Unsealed) × Opens k t u
read_is_sealed k t x h =
    let token = id_read-token k t x h in
    (opened token.header token.payload, (token.header, token.sealed, refl))
