-- A text under two keys: what one key opens, another opens too or finds its MAC wrong; any other error is the same.
use Rattle.std.proofs.Common.{◌≡◌, Bool, true, false, not, nat_lt, length, ◌∷◌, ◌++◌, Option, Some, None, Result, Ok, Err, ◌⊎◌, inl, inr, refl, sym, ap, ◌∙◌}
use Rattle.std.specs.Str.{bytes_eq}
use Rattle.serde_json.specs.Data.{Data}
use Rattle.hmac256.specs.Hmac.{hmac_of}
use Rattle.sso_base.specs.Words.{Text}
use Rattle.sso_base.specs.Base64Url.{unb64u, unb64u_32}
use Rattle.sso_base.specs.Refusals.{and_then_as, demand, forbid}
use Rattle.sso_base.proofs.Refusals.{and_then_as_ok, one_value}
use Rattle.jws_compact.specs.declared.no.JwsNo.{JwsNo}
use Rattle.jws_compact.specs.declared.no.JwsNo.TheVariants.{TooLong, NotThreeParts, HeaderSpelling, PayloadSpelling, MacSpelling, HeaderNotObject, AlgNotHs256}
use Rattle.jws_compact.specs.declared.no.JwsNo.TheVariants.{Crit, BadMac}
use Rattle.jws_compact.specs.declared.unsealing.Unsealed.{Unsealed}
use Rattle.jws_compact.specs.Jws.{three_parts, read_object, is_hs256, has_crit, opened, verdict}
use Rattle.jws_compact.proofs.Opening.{ok_of}
use Rattle.jws_compact.proofs.Splits.{Triple}

-- ---- the verdict, from each of its steps on

abbrev from_mac : Text → Triple → Text → Text → Text → Result Unsealed JwsNo
from_mac k s h p m = forbid BadMac (not (bytes_eq m (hmac_of k (s.0 ++ 46 ∷ s.1)))) (ok_of (opened h p))

abbrev from_alg : Text → Triple → Text → Text → Text → Data → Result Unsealed JwsNo
from_alg k s h p m d = forbid AlgNotHs256 (not (is_hs256 d)) (forbid Crit (has_crit d) (from_mac k s h p m))

abbrev from_object : Text → Triple → Text → Text → Text → Result Unsealed JwsNo
from_object k s h p m = demand HeaderNotObject (read_object h) (from_alg k s h p m)

abbrev from_mac_part : Text → Triple → Text → Text → Result Unsealed JwsNo
from_mac_part k s h p = demand MacSpelling (unb64u_32 s.2) (from_object k s h p)

abbrev from_payload : Text → Triple → Text → Result Unsealed JwsNo
from_payload k s h = demand PayloadSpelling (unb64u s.1) (from_mac_part k s h)

abbrev from_header : Text → Triple → Result Unsealed JwsNo
from_header k s = demand HeaderSpelling (unb64u s.0) (from_payload k s)

abbrev from_parts : Text → Text → Result Unsealed JwsNo
from_parts k t = demand NotThreeParts (three_parts t) (from_header k)

-- ---- two verdicts that differ in the MAC alone

record Alike (r q : Result Unsealed JwsNo) : Type 0 where
  opens : (u : Unsealed) → r ≡ Ok u → (q ≡ Ok u) ⊎ (q ≡ Err BadMac)
  refuses : (e : JwsNo) → r ≡ Err e → (e ≡ BadMac → ⊥) → q ≡ Err e

with_itself : (r : Result Unsealed JwsNo) → Alike r r
with_itself r = record { opens = λ u h. inl h; refuses = λ e h other. h }

demand_alike : {A : Type 0} (first : JwsNo) (o : Option A) (f g : A → Result Unsealed JwsNo) → ((a : A) → Alike (f a) (g a)) → Alike (demand first o f) (demand first o g)
demand_alike first None f g next = with_itself (Err first)
demand_alike first (Some a) f g next = next a

forbid_alike : (first : JwsNo) (b : Bool) (r q : Result Unsealed JwsNo) → Alike r q → Alike (forbid first b r) (forbid first b q)
forbid_alike first true r q next = with_itself (Err first)
forbid_alike first false r q next = next

no_error : (u : Unsealed) (e : JwsNo) → ok_of u ≡ Err e → ⊥
no_error u e h = cc

abbrev error_of : JwsNo → Result Unsealed JwsNo
error_of e = Err e

nothing_opened : (u : Unsealed) (e : JwsNo) → error_of e ≡ Ok u → ⊥
nothing_opened u e h = cc

same_error : (e f : JwsNo) → error_of e ≡ error_of f → f ≡ e
same_error e f h = cc

macs_alike : (b c : Bool) (u : Unsealed) → Alike (forbid BadMac b (ok_of u)) (forbid BadMac c (ok_of u))
macs_alike true c u = record { opens = λ v h. absurd (nothing_opened v BadMac h); refuses = λ e h other. absurd (other (same_error BadMac e h)) }
macs_alike false true u = record { opens = λ v h. inr refl; refuses = λ e h other. absurd (no_error u e h) }
macs_alike false false u = with_itself (ok_of u)

alike_from_alg : (k l : Text) (s : Triple) (h p m : Text) (d : Data) → Alike (from_alg k s h p m d) (from_alg l s h p m d)
alike_from_alg k l s h p m d =
    let macs : Alike (from_mac k s h p m) (from_mac l s h p m) = macs_alike (not (bytes_eq m (hmac_of k (s.0 ++ 46 ∷ s.1)))) (not (bytes_eq m (hmac_of l (s.0 ++ 46 ∷ s.1)))) (opened h p) in
    let crits = forbid_alike Crit (has_crit d) (from_mac k s h p m) (from_mac l s h p m) macs in
    forbid_alike AlgNotHs256 (not (is_hs256 d)) (forbid Crit (has_crit d) (from_mac k s h p m)) (forbid Crit (has_crit d) (from_mac l s h p m)) crits

alike : (k l t : Text) → Alike (verdict k t) (verdict l t)
unfolding verdict
alike k l t =
    forbid_alike TooLong (nat_lt 8192 (length t)) (from_parts k t) (from_parts l t)
    (demand_alike NotThreeParts (three_parts t) (from_header k) (from_header l) (λ s.
    demand_alike HeaderSpelling (unb64u s.0) (from_payload k s) (from_payload l s) (λ h.
    demand_alike PayloadSpelling (unb64u s.1) (from_mac_part k s h) (from_mac_part l s h) (λ p.
    demand_alike MacSpelling (unb64u_32 s.2) (from_object k s h p) (from_object l s h p) (λ m.
    demand_alike HeaderNotObject (read_object h) (from_alg k s h p m) (from_alg l s h p m) (λ d. alike_from_alg k l s h p m d))))))

-- ---- what is opened

pub other_key : (k l t : Text) (u : Unsealed) → verdict k t ≡ Ok u → (verdict l t ≡ Ok u) ⊎ (verdict l t ≡ Err BadMac)
other_key k l t u e = (alike k l t).opens u e

opened_once : (k l t : Text) (u v : Unsealed) → verdict k t ≡ Ok u → verdict l t ≡ Ok v → u ≡ v
opened_once k l t u v first second = at (other_key k l t u first)
  where
    at : (verdict l t ≡ Ok u) ⊎ (verdict l t ≡ Err BadMac) → u ≡ v
    at (inl is) = cc
    at (inr bad) = absurd (cc)

-- whatever key reads a text, it reads the same
pub read_once : {A E : Type 0} (wrap : JwsNo → E) (inside : Unsealed → Result A E) (k l t : Text) (x y : A)
    → and_then_as wrap (verdict k t) inside ≡ Ok x → and_then_as wrap (verdict l t) inside ≡ Ok y → x ≡ y
read_once {A} {E} wrap inside k l t x y one two =
    let u = and_then_as_ok wrap (verdict k t) inside x one in
    let v = and_then_as_ok wrap (verdict l t) inside y two in
    one_value E x y (sym u.2 ∙ ap inside (opened_once k l t u.0 v.0 u.1 v.1) ∙ v.2)

-- ---- any other error

pub same_refusal : (k l t : Text) (e : JwsNo) → verdict k t ≡ Err e → (e ≡ BadMac → ⊥) → verdict l t ≡ Err e
same_refusal k l t e h other = (alike k l t).refuses e h other
