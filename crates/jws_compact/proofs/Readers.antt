-- A reader of sealed texts that goes on with what a text has inside: it refuses a text as unsealed if and only if the text is not
-- sealed under the key, and for the same reason.
use Rattle.std.proofs.Common.{◌≡◌, ◌↔◌, ℕ, List, Result, Ok, Err, refl, ap}
use Rattle.sso_base.specs.Refusals.{and_then_as}
use Rattle.jws_compact.specs.declared.no.JwsNo.{JwsNo}
use Rattle.jws_compact.specs.declared.unsealing.Unsealed.{Unsealed}
use Rattle.jws_compact.specs.Jws.{Opens, opened, verdict}
use Rattle.jws_compact.proofs.Opening.{sealed_verdict, verdict_sealed}

module _ {X N : Type 0} (wrap : JwsNo → N) (inside : Unsealed → Result X N)
    (one_reason : (d e : JwsNo) → wrap d ≡ wrap e → d ≡ e) (apart : (u : Unsealed) (e : JwsNo) → inside u ≡ Err (wrap e) → ⊥) where
  by_verdict : (r : Result Unsealed JwsNo) (e : JwsNo) → and_then_as wrap r inside ≡ Err (wrap e) → r ≡ Err e
  by_verdict (Ok u) e h = absurd (apart u e h)
  by_verdict (Err f) e h =
      let same : wrap f ≡ wrap e = cc in
      let E : JwsNo → Result Unsealed JwsNo = λ x. Err x in
      ap E (one_reason f e same)

  unsealed_by : (k t : List ℕ) (e : JwsNo) → and_then_as wrap (verdict k t) inside ≡ Err (wrap e) → verdict k t ≡ Err e
  unsealed_by k t e h = by_verdict (verdict k t) e h

  unopened : (k t : List ℕ) (e : JwsNo) → verdict k t ≡ Err e → and_then_as wrap (verdict k t) inside ≡ Err (wrap e)
  unopened k t e h = ap (λ (r : Result Unsealed JwsNo). and_then_as wrap r inside) h

  pub reader_reason : (k t : List ℕ) (e : JwsNo) → (and_then_as wrap (verdict k t) inside ≡ Err (wrap e)) ↔ (verdict k t ≡ Err e)
  reader_reason k t e = (unsealed_by k t e, unopened k t e)

  -- what is refused so is not sealed, and what is not sealed is refused so

  not_sealed : (k t : List ℕ) → ((e : JwsNo) × (and_then_as wrap (verdict k t) inside ≡ Err (wrap e))) → (u : Unsealed) → ¬ Opens k t u
  not_sealed k t why u opens =
      let reads : verdict k t ≡ Ok (opened opens.0 u.payload) = sealed_verdict k opens.0 u.payload t opens.1 in
      let refuses : verdict k t ≡ Err why.0 = unsealed_by k t why.0 why.1 in
      cc

  refused_at : (k t : List ℕ) (r : Result Unsealed JwsNo) → verdict k t ≡ r → ((u : Unsealed) → ¬ Opens k t u) → (e : JwsNo) × (and_then_as wrap (verdict k t) inside ≡ Err (wrap e))
  refused_at k t (Ok u) is none = absurd (none u (verdict_sealed k t u is))
  refused_at k t (Err e) is none = (e, unopened k t e is)

  pub reader_refuses : (k t : List ℕ) → ((e : JwsNo) × (and_then_as wrap (verdict k t) inside ≡ Err (wrap e))) ↔ ((u : Unsealed) → ¬ Opens k t u)
  reader_refuses k t = (not_sealed k t, refused_at k t (verdict k t) refl)
