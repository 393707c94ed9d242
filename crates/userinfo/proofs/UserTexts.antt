-- The texts of users' claims are read as claims, and refused for want of memory alone.
use Rattle.std.proofs.Common.{◌≡◌, ◌⊎◌, inl, inr, ℕ, zero, suc, List, [], ◌∷◌, Some, Result, Ok, Err, slice_get, sym, ap, ◌∙◌, subst}
use Rattle.std.specs.List.{AllByRecursion}
use Rattle.serde_json.specs.Data.{Members}
use Rattle.sso_base.proofs.Refusals.{one_value}
use Rattle.claim_set.specs.declared.no.ClaimNo.{ClaimNo}
use Rattle.claim_set.specs.declared.no.ClaimNo.TheVariants.{NoMemory}
use Rattle.claim_set.specs.Fitting.{InOrder, ClaimsFit}
use Rattle.claim_set.specs.Reading.{claims_read, Reads}
use Rattle.claim_set.proofs.Parsing.{read_reads}
use Rattle.claim_set.proofs.Order.{InOrder-Reads}
use Rattle.claim_set.proofs.Written.{claims_read-claims_text}
use Rattle.client_registry.specs.declared.records.User.{User}
use Rattle.client_registry.specs.Configuration.{Configuration}
use Rattle.client_registry.specs.Numbers.{user_at}
use Rattle.client_registry.specs.Registered.{HoldsClaims, AllHoldClaims, IsRegistry}
use Rattle.userinfo.specs.Held.{members_or_none, text_claims}

abbrev claims_ok : Members → Result Members ClaimNo
claims_ok ms = Ok ms

held_read : (b : List ℕ) (h : HoldsClaims b) → claims_read b ≡ claims_ok h.claims
held_read b h = ap claims_read h.text ∙ claims_read-claims_text h.claims h.fits

-- the claims that a text holds are those that are read
pub text_is : (b : List ℕ) (h : HoldsClaims b) → text_claims b ≡ h.claims
unfolding text_claims
text_is b h = ap members_or_none (held_read b h)

pub text_read : (b : List ℕ) → HoldsClaims b → claims_read b ≡ claims_ok (text_claims b)
text_read b h = held_read b h ∙ ap claims_ok (sym (text_is b h))

no_set : {Z : Type 0} (ms : Members) (e : ClaimNo) → claims_ok ms ≡ Err e → Z
no_set ms e h = absurd (cc)

pub same_claims : (b : List ℕ) (ms : Members) → HoldsClaims b → claims_read b ≡ Ok ms → ms ≡ text_claims b
same_claims b ms h is = one_value ClaimNo ms (text_claims b) (sym is ∙ text_read b h)

pub refused_for_memory : (b : List ℕ) (e : ClaimNo) → HoldsClaims b → (e ≡ NoMemory) ⊎ (claims_read b ≡ Err e) → e ≡ NoMemory
refused_for_memory b e h (inl is) = is
refused_for_memory b e h (inr is) = no_set (text_claims b) e (sym (text_read b h) ∙ is)

pub text_reads : (b : List ℕ) → HoldsClaims b → Reads b (text_claims b)
text_reads b h = read_reads b (text_claims b) (text_read b h)

pub in_order : (b : List ℕ) → HoldsClaims b → InOrder (text_claims b)
in_order b h = InOrder-Reads b (text_claims b) (text_reads b h)

pub text_fits : (b : List ℕ) → HoldsClaims b → ClaimsFit (text_claims b)
text_fits b h = subst ClaimsFit (sym (text_is b h)) h.fits

-- ---- the users of a registry

pub at_place : (P : User → Type 0) (users : List User) (n : ℕ) (u : User) → AllByRecursion P users → slice_get users n ≡ Some u → P u
at_place P [] zero u h is = absurd (cc)
at_place P [] (suc n) u h is = absurd (cc)
at_place P (v ∷ users) zero u h is = let same : v ≡ u = cc in subst P same h.0
at_place P (v ∷ users) (suc n) u h is = at_place P users n u h.1 is

holds_at : (users : List User) (n : ℕ) (u : User) → AllHoldClaims users → slice_get users n ≡ Some u → HoldsClaims u.claims
unfolding AllHoldClaims
holds_at users n u h is = at_place (λ (v : User). HoldsClaims v.claims) users n u h is

pub user_holds : (c : Configuration) (n : ℕ) (u : User) → IsRegistry c → user_at c n ≡ Some u → HoldsClaims u.claims
user_holds c n u r is = holds_at c.users n u r.user_claims is
