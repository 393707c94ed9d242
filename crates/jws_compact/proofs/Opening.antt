-- A text is opened if and only if it is sealed.
use Rattle.std.proofs.Common.{◌≡◌, ℕ, ◌≤◌, List, [], ◌∷◌, ◌++◌, length, Option, Some, None, option_map, is_some, Result, Ok, Bool, true, false, not, nat_eq, nat_lt, cond, codes, refl, sym, ap, ◌∙◌, arith, true≢false, subst, append_assoc}
use Rattle.std.specs.Prelude.{unwrap_or}
use Rattle.std.specs.List.{list_all}
use Rattle.std.specs.Str.{bytes_eq}
use Rattle.std.proofs.lemmas.Slice.Eq.{bytes_eq-Decides}
use Rattle.std.proofs.lemmas.Grind.{common_steps}
use Rattle.serde_json.specs.Data.{Data}
use Rattle.serde_json.specs.Find.{get}
use Rattle.hmac256.specs.Hmac.{hmac_of}
use Rattle.hmac256.proofs.Facts.{all_bytes-hmac, length-hmac}
use Rattle.sso_base.specs.Base64Url.{b64u, unb64u_32}
use Rattle.sso_base.proofs.Spelling.{unb64u_some, unb64u-b64u, unb64u_32_some, unb64u_32-b64u, b64u_inj, b64u_no_dot, is_no_dot, both_true, IsBytes-from_all_bytes}
use Rattle.jws_compact.specs.declared.no.JwsNo.{JwsNo}
use Rattle.jws_compact.specs.declared.unsealing.Unsealed.{Unsealed}
use Rattle.jws_compact.specs.Jws.{at_first_dot, three_parts, text_member, is_hs256, has_crit, Sealed, signing_input, opened, Opens, payload_in, verdict}
use Rattle.sso_base.proofs.Refusals.{demand_ok, forbid_ok}
use Rattle.sso_base.proofs.Decided.{not_not}
use Rattle.jws_compact.proofs.Splits.{Triple, same_triple, three_parts_join}

-- ---- one step back

alg_at : (o : Option (List ℕ)) → unwrap_or (option_map (λ s. bytes_eq s (codes "HS256")) o) false ≡ true → o ≡ Some (codes "HS256")
alg_at None h = absurd (true≢false (sym h))
alg_at (Some s) h = ap Some ((bytes_eq-Decides s (codes "HS256")).0 h)

none_at : (o : Option Data) → is_some o ≡ false → o ≡ None
none_at None h = refl
none_at (Some d) h = absurd (true≢false h)

hs256_alg : (d : Data) → is_hs256 d ≡ true → text_member (codes "alg") d ≡ Some (codes "HS256")
unfolding is_hs256
hs256_alg d h = alg_at (text_member (codes "alg") d) h

no_crit_at : (d : Data) → has_crit d ≡ false → get (codes "crit") d ≡ None
unfolding has_crit
no_crit_at d h = none_at (get (codes "crit") d) h

not_long : (t : List ℕ) → nat_lt 8192 (length t) ≡ false → length t ≤ 8192
not_long t h = grind (arith, common_steps)

abbrev pub ok_of : Unsealed → Result Unsealed JwsNo
ok_of u = Ok u

pub ok_same : (u v : Unsealed) → ok_of u ≡ ok_of v → u ≡ v
ok_same u v e = cc

mac_text : (k t s p m : List ℕ) → not (bytes_eq m (hmac_of k (s ++ 46 ∷ p))) ≡ false → m ≡ hmac_of k (s ++ 46 ∷ p)
mac_text k t s p m h = (bytes_eq-Decides m (hmac_of k (s ++ 46 ∷ p))).0 (not_not _ h)

sealed_text : (k t h p m a b c : List ℕ) → t ≡ a ++ 46 ∷ (b ++ 46 ∷ c) → a ≡ b64u h → b ≡ b64u p → c ≡ b64u m → m ≡ hmac_of k (a ++ 46 ∷ b) → t ≡ signing_input h p ++ 46 ∷ b64u (hmac_of k (signing_input h p))
sealed_text k t h p m a b c e f g i j = rw (append_assoc, e, i, j, f, g)

-- what is read is sealed
pub verdict_sealed : (k t : List ℕ) (u : Unsealed) → verdict k t ≡ Ok u → Opens k t u
unfolding verdict
verdict_sealed k t u e =
    let long = forbid_ok _ _ _ _ e in
    let three = demand_ok _ _ _ _ long.1 in
    let header = demand_ok _ _ _ _ three.2 in
    let payload = demand_ok _ _ _ _ header.2 in
    let mac = demand_ok _ _ _ _ payload.2 in
    let object = demand_ok _ _ _ _ mac.2 in
    let alg = forbid_ok _ _ _ _ object.2 in
    let crit = forbid_ok _ _ _ _ alg.1 in
    let good = forbid_ok _ _ _ _ crit.1 in
    let same : opened header.0 payload.0 ≡ u = ok_same _ _ good.1 in
    let h = unb64u_some _ _ header.1 in
    let p = unb64u_some _ _ payload.1 in
    let m = unb64u_32_some _ _ mac.1 in
    let joined = three_parts_join t three.0 three.1 in
    let whole = sealed_text k t header.0 payload.0 mac.0 three.0.0 three.0.1 three.0.2 joined h.0 p.0 m.0 (mac_text k t _ _ _ good.0) in
    let P : Unsealed → Type 0 = λ v. Opens k t v in
    subst P same (
      header.0,
      record {
        text = whole;
        short = not_long t long.0;
        header_bytes = h.1;
        payload_bytes = p.1;
        header = record { value = object.0; is = object.1; alg = hs256_alg _ (not_not _ alg.0); no_crit = no_crit_at _ crit.0 };
      },
      refl,
    )

-- ---- the other way

not_past : (n : ℕ) → n ≤ 8192 → nat_lt 8192 n ≡ false
not_past n h = grind (arith, common_steps)

dot_at : (b : Bool) → cond b false true ≡ true → b ≡ false
dot_at true h = absurd (true≢false (sym h))
dot_at false h = refl

is_not_dot : (x : ℕ) → is_no_dot x ≡ true → nat_eq x 46 ≡ false
is_not_dot x h = dot_at (nat_eq x 46) h

no_split : (xs : List ℕ) → list_all is_no_dot xs ≡ true → at_first_dot xs ≡ None
no_split [] h = refl
no_split (x ∷ xs) h = let both = both_true (is_no_dot x) (list_all is_no_dot xs) h in rw (is_not_dot x both.0, no_split xs both.1)

split_no_dot : (a b : List ℕ) → list_all is_no_dot a ≡ true → at_first_dot (a ++ 46 ∷ b) ≡ Some (a, b)
split_no_dot [] b h = refl
split_no_dot (x ∷ a) b h = let both = both_true (is_no_dot x) (list_all is_no_dot a) h in rw (is_not_dot x both.0, split_no_dot a b both.1)

pub three_of : (a b c : List ℕ) → list_all is_no_dot a ≡ true → list_all is_no_dot b ≡ true → list_all is_no_dot c ≡ true
    → three_parts ((a ++ 46 ∷ b) ++ 46 ∷ c) ≡ Some (a, b, c)
unfolding three_parts
three_of a b c f g h = rw (append_assoc a (46 ∷ b) (46 ∷ c), split_no_dot a (b ++ 46 ∷ c) f, split_no_dot b c g, no_split c h)

spelled_mac : (k s : List ℕ) → unb64u_32 (b64u (hmac_of k s)) ≡ Some (hmac_of k s)
spelled_mac k s = unb64u_32-b64u (hmac_of k s) (IsBytes-from_all_bytes _ (all_bytes-hmac k s)) (length-hmac k s)

is_hs256_at : (d : Data) → text_member (codes "alg") d ≡ Some (codes "HS256") → is_hs256 d ≡ true
unfolding is_hs256
is_hs256_at d h = rw h

no_crit_test : (d : Data) → get (codes "crit") d ≡ None → has_crit d ≡ false
unfolding has_crit
no_crit_test d h = rw h

same_mac : (m : List ℕ) → not (bytes_eq m m) ≡ false
same_mac m = rw ((bytes_eq-Decides m m).1 refl)

three_of_sealed : (k h p t : List ℕ) → Sealed k h p t → three_parts t ≡ Some (b64u h, b64u p, b64u (hmac_of k (signing_input h p)))
three_of_sealed k h p t s = rw s.text (three_of (b64u h) (b64u p) (b64u (hmac_of k (signing_input h p))) (b64u_no_dot h) (b64u_no_dot p) (b64u_no_dot _))

-- the payload of a sealed text does not depend on the key
sealed_payload : (k h p t : List ℕ) → Sealed k h p t → payload_in t ≡ Some p
unfolding payload_in
sealed_payload k h p t s = rw (not_past (length t) s.short, three_of_sealed k h p t s, unb64u-b64u p s.payload_bytes)

pub verdict_payload : (k t : List ℕ) (u : Unsealed) → verdict k t ≡ Ok u → payload_in t ≡ Some u.payload
verdict_payload k t u e = let opens = verdict_sealed k t u e in sealed_payload k opens.0 u.payload t opens.1

-- what is sealed is read
pub sealed_verdict : (k h p t : List ℕ) → Sealed k h p t → verdict k t ≡ Ok (opened h p)
unfolding verdict
sealed_verdict k h p t s =
    rw (
      not_past (length t) s.short,
      three_of_sealed k h p t s,
      unb64u-b64u h s.header_bytes,
      unb64u-b64u p s.payload_bytes,
      spelled_mac k (signing_input h p),
      s.header.is,
      is_hs256_at s.header.value s.header.alg,
      no_crit_test s.header.value s.header.no_crit,
      same_mac (hmac_of k (signing_input h p)),
    )

-- ---- one header and one payload

abbrev spelled_parts : List ℕ → List ℕ → List ℕ → Triple
spelled_parts k h p = (b64u h, b64u p, b64u (hmac_of k (signing_input h p)))

same_parts : (k l h g p q t : List ℕ) → Sealed k h p t → Sealed l g q t → spelled_parts k h p ≡ spelled_parts l g q
same_parts k l h g p q t s r = same_triple _ _ (sym (three_of_sealed k h p t s) ∙ three_of_sealed l g q t r)

pub same_header : (k l h g p q t : List ℕ) → Sealed k h p t → Sealed l g q t → h ≡ g
same_header k l h g p q t s r = b64u_inj h g s.header_bytes r.header_bytes (ap (λ (x : Triple). x.0) (same_parts k l h g p q t s r))

pub same_payload : (k l h g p q t : List ℕ) → Sealed k h p t → Sealed l g q t → p ≡ q
same_payload k l h g p q t s r = b64u_inj p q s.payload_bytes r.payload_bytes (ap (λ (x : Triple). x.1) (same_parts k l h g p q t s r))
