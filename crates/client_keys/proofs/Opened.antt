-- A text is opened for a client if and only if it is sealed under one of its secrets.
use Rattle.std.proofs.Common.{◌≡◌, ◌||◌, Bool, true, false, cond, Option, Some, None, Result, Ok, Err, ◌⊎◌, inl, inr, refl, sym, ap, ◌∙◌, subst, true≢false}
use Rattle.std.specs.Str.{bytes_eq}
use Rattle.std.proofs.lemmas.Slice.Eq.{bytes_eq-Decides}
use Rattle.sso_base.specs.Words.{Text}
use Rattle.sso_base.specs.Refusals.{and_then_as}
use Rattle.sso_base.proofs.Refusals.{and_then_as_ok}
use Rattle.sso_base.proofs.RowLaws.{bool_cases}
use Rattle.jws_compact.specs.declared.no.JwsNo.{JwsNo}
use Rattle.jws_compact.specs.declared.no.JwsNo.TheVariants as no
use Rattle.jws_compact.specs.declared.no.JwsNo.TheVariants.{BadMac}
use Rattle.jws_compact.specs.declared.unsealing.Unsealed.{Unsealed}
use Rattle.jws_compact.specs.Jws.{Sealed, opened, verdict}
use Rattle.jws_compact.proofs.Opening.{ok_of, verdict_sealed, sealed_verdict}
use Rattle.client_registry.specs.declared.records.Client.{Client}
use Rattle.client_registry.specs.Secrets.{is_old, has_secret}
use Rattle.client_keys.specs.Opening.{SealedFor, OpensFor, is_bad_mac, has_bad_mac, opening_by, opening, verdict_for}
use Rattle.client_keys.proofs.EachKey.{other_key}

-- ---- a secret of the client is its secret or its old one

either_of : (a b : Bool) → (a || b) ≡ true → (a ≡ true) ⊎ (b ≡ true)
either_of true b h = inl refl
either_of false b h = inr h

pub one_of_two : (secret : Text) (o : Option Text) (t : Text) → (bytes_eq secret t || is_old t o) ≡ true → (secret ≡ t) ⊎ (o ≡ Some t)
one_of_two secret o t h = at o (either_of (bytes_eq secret t) (is_old t o) h)
  where
    at : (p : Option Text) → (bytes_eq secret t ≡ true) ⊎ (is_old t p ≡ true) → (secret ≡ t) ⊎ (p ≡ Some t)
    at p (inl is) = inl ((bytes_eq-Decides secret t).0 is)
    at None (inr is) = absurd (true≢false (sym is))
    at (Some old) (inr is) = inr (ap (λ (x : Text). Some x) ((bytes_eq-Decides old t).0 is))

same : (t : Text) → bytes_eq t t ≡ true
same t = (bytes_eq-Decides t t).1 refl

-- ---- a wrong MAC

pub bad_mac : (r : Result Unsealed JwsNo) → is_bad_mac r ≡ true → r ≡ Err BadMac
bad_mac (Ok u) h = absurd (true≢false (sym h))
bad_mac (Err BadMac) h = refl
bad_mac (Err no.NoMemory) h = absurd (true≢false (sym h))
bad_mac (Err no.TooLong) h = absurd (true≢false (sym h))
bad_mac (Err no.NotThreeParts) h = absurd (true≢false (sym h))
bad_mac (Err no.HeaderSpelling) h = absurd (true≢false (sym h))
bad_mac (Err no.PayloadSpelling) h = absurd (true≢false (sym h))
bad_mac (Err no.MacSpelling) h = absurd (true≢false (sym h))
bad_mac (Err no.HeaderNotObject) h = absurd (true≢false (sym h))
bad_mac (Err no.AlgNotHs256) h = absurd (true≢false (sym h))
bad_mac (Err no.Crit) h = absurd (true≢false (sym h))

-- ---- what is sealed is opened

ok_not_bad : (r : Result Unsealed JwsNo) (u : Unsealed) → r ≡ Ok u → is_bad_mac r ≡ false
ok_not_bad r u is = ap is_bad_mac is

-- a text that is sealed under a key is opened under the other, unless its MAC is wrong there
not_bad : (k l h p t : Text) → Sealed k h p t → has_bad_mac l t ≡ false → verdict l t ≡ Ok (opened h p)
not_bad k l h p t s fine = at (other_key k l t (opened h p) (sealed_verdict k h p t s))
  where
    at : (verdict l t ≡ Ok (opened h p)) ⊎ (verdict l t ≡ Err BadMac) → verdict l t ≡ Ok (opened h p)
    at (inl is) = is
    at (inr bad) = absurd (true≢false (sym (ap is_bad_mac bad) ∙ fine))

module _ (secret h p t : Text) where
  -- the text is sealed under the secret
  by_secret : (o : Option Text) → Sealed secret h p t → verdict (opening_by secret o t) t ≡ Ok (opened h p)
  by_secret None s = sealed_verdict secret h p t s
  by_secret (Some old) s =
      let fine : has_bad_mac secret t ≡ false = ok_not_bad (verdict secret t) (opened h p) (sealed_verdict secret h p t s) in
      ap (λ b. verdict (cond b old secret) t) fine ∙ sealed_verdict secret h p t s

  -- the text is sealed under the old secret
  by_old : (old : Text) → Sealed old h p t → verdict (opening_by secret (Some old) t) t ≡ Ok (opened h p)
  by_old old s =
      elim (bool_cases (has_bad_mac secret t)) [
        | inl bad ↦ ap (λ b. verdict (cond b old secret) t) bad ∙ sealed_verdict old h p t s
        | inr fine ↦ ap (λ b. verdict (cond b old secret) t) fine ∙ not_bad old secret h p t s fine
      ]

opened_by : (secret : Text) (o : Option Text) (k h p t : Text) → (secret ≡ k) ⊎ (o ≡ Some k) → Sealed k h p t → verdict (opening_by secret o t) t ≡ Ok (opened h p)
opened_by secret o k h p t (inl is) s = by_secret secret h p t o (subst (λ x. Sealed x h p t) (sym is) s)
opened_by secret o k h p t (inr is) s = ap (λ x. verdict (opening_by secret x t) t) is ∙ by_old secret h p t k s

pub sealed_opens : (client : Client) (h p t : Text) → SealedFor client h p t → verdict_for client t ≡ Ok (opened h p)
unfolding opening
sealed_opens client h p t s = opened_by client.secret client.old_secret s.secret h p t (one_of_two client.secret client.old_secret s.secret s.own) s.sealed

-- ---- what is opened is sealed

or_first : (a b : Bool) → a ≡ true → (a || b) ≡ true
or_first true b h = refl
or_first false b h = absurd (true≢false (sym h))

or_second : (a b : Bool) → b ≡ true → (a || b) ≡ true
or_second true b h = refl
or_second false b h = h

own_at : (bad : Bool) (secret old : Text) → (bytes_eq secret (cond bad old secret) || bytes_eq old (cond bad old secret)) ≡ true
own_at true secret old = or_second (bytes_eq secret old) (bytes_eq old old) (same old)
own_at false secret old = or_first (bytes_eq secret secret) (bytes_eq old secret) (same secret)

own : (secret : Text) (o : Option Text) (t : Text) → (bytes_eq secret (opening_by secret o t) || is_old (opening_by secret o t) o) ≡ true
own secret None t = or_first (bytes_eq secret secret) false (same secret)
own secret (Some old) t = own_at (has_bad_mac secret t) secret old

-- what opens is a secret of the client
pub opening_is_own : (client : Client) (t : Text) → has_secret (opening client t) client ≡ true
unfolding opening
opening_is_own client t = own client.secret client.old_secret t

pub opened_is_sealed : (client : Client) (t : Text) (u : Unsealed) → verdict_for client t ≡ Ok u → OpensFor client t u
opened_is_sealed client t u is =
    let o = verdict_sealed (opening client t) t u is in
    (o.0, record { secret = opening client t; own = opening_is_own client t; sealed = o.1 }, o.2)

-- ---- what one secret of the client opens, the client opens

pub opens_alike : (client : Client) (k t : Text) (u : Unsealed) → has_secret k client ≡ true → verdict k t ≡ Ok u → verdict_for client t ≡ Ok u
opens_alike client k t u own is =
    let o = verdict_sealed k t u is in
    let same : opened o.0 u.payload ≡ u = λ i. record { typ = sym o.2 i; payload = u.payload } in
    sealed_opens client o.0 u.payload t (record { secret = k; own = own; sealed = o.1 }) ∙ ap ok_of same

-- and reads from it what the secret reads
pub reads_alike : {A E : Type 0} (wrap : JwsNo → E) (inside : Unsealed → Result A E) (client : Client) (k t : Text) (x : A)
    → has_secret k client ≡ true → and_then_as wrap (verdict k t) inside ≡ Ok x → and_then_as wrap (verdict_for client t) inside ≡ Ok x
reads_alike wrap inside client k t x own h =
    let u = and_then_as_ok wrap (verdict k t) inside x h in
    ap (λ r. and_then_as wrap r inside) (opens_alike client k t u.0 own u.1) ∙ u.2

-- ---- a wrong MAC is wrong under each secret

bad_under : (secret : Text) (o : Option Text) (k t : Text) → (secret ≡ k) ⊎ (o ≡ Some k) → verdict (opening_by secret o t) t ≡ Err BadMac → verdict k t ≡ Err BadMac
bad_under secret None k t (inl is) h = subst (λ x. verdict x t ≡ Err BadMac) is h
bad_under secret None k t (inr is) h = absurd (cc)
bad_under secret (Some old) k t own h =
    elim (bool_cases (has_bad_mac secret t)) [
      | inl bad ↦ under bad own
      | inr fine ↦ absurd (true≢false (sym (ap is_bad_mac (sym (ap (λ b. verdict (cond b old secret) t) fine) ∙ h)) ∙ fine))
    ]
  where
    under : has_bad_mac secret t ≡ true → (secret ≡ k) ⊎ (Some old ≡ Some k) → verdict k t ≡ Err BadMac
    under bad (inl is) = subst (λ x. verdict x t ≡ Err BadMac) is (bad_mac (verdict secret t) bad)
    under bad (inr is) =
        let this : old ≡ k = cc in
        subst (λ x. verdict x t ≡ Err BadMac) this (sym (ap (λ b. verdict (cond b old secret) t) bad) ∙ h)

pub bad_under_each : (client : Client) (secret t : Text) → verdict_for client t ≡ Err BadMac → has_secret secret client ≡ true → verdict secret t ≡ Err BadMac
unfolding opening
bad_under_each client secret t h own = bad_under client.secret client.old_secret secret t (one_of_two client.secret client.old_secret secret own) h

pub bad_for_client : (client : Client) (t : Text) → ((secret : Text) → has_secret secret client ≡ true → verdict secret t ≡ Err BadMac) → verdict_for client t ≡ Err BadMac
bad_for_client client t each = each (opening client t) (opening_is_own client t)
