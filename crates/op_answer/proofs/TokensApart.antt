-- Logout tokens and ID Tokens, as the provider writes them, stay apart, and from request objects.
use Rattle.std.proofs.Common.{◌≡◌, ℕ, false, List, [], ◌∷◌, zero, suc, None, Some, Option, Ok, codes, refl, sym, ◌∙◌, subst, true≢false}
use Rattle.std.specs.List.{AllByRecursion, slice_get}
use Rattle.std.specs.Str.{bytes_eq}
use Rattle.std.proofs.lemmas.Slice.Eq.{bytes_eq-Decides}
use Rattle.serde_json.specs.Find.{get_member}
use Rattle.oidc_words.specs.Claims.{is_claim_of, profile_claims, email_claims, address_claims, phone_claims}
use Rattle.sso_base.specs.Words.{Word, Text}
use Rattle.client_registry.specs.Configuration.{Configuration}
use Rattle.client_registry.specs.Numbers.{client_at, client_sealing}
use Rattle.client_registry.specs.Registered.{IsRegistry}
use Rattle.client_registry.specs.declared.records.Client.{Client}
use Rattle.request_params.specs.declared.params.Params.{Params}
use Rattle.request_object.specs.Reading.{request_read}
use Rattle.auth_request.specs.declared.wish.Wish.{Wish}
use Rattle.auth_request.specs.Values.{IsWishValue}
use Rattle.userinfo.proofs.Told.{unknown_is_absent}
use Rattle.id_token.specs.declared.claims.IdClaims.{IdClaims}
use Rattle.id_token.specs.declared.rules.IdRules.{IdRules}
use Rattle.id_token.specs.Reading.{id_read}
use Rattle.id_token.specs.Judging.{IsGoodIdToken}
use Rattle.logout_token.specs.declared.claims.LogoutClaims.{LogoutClaims}
use Rattle.logout_token.specs.LogoutToken.{logout_read}
use Rattle.token_kinds.proofs.Apart.{sealed_logout_no_id_token, sealed_id_no_logout_token}
use Rattle.token_kinds.proofs.Issued.{sealed_logout_no_request, sealed_id_no_request}
use Rattle.op_issue.specs.declared.issuing.Authentication.{Authentication}
use Rattle.op_issue.specs.IdTokens.{id_scopes, id_claims, issued_id}
use Rattle.op_issue.specs.Issuing.{MayIssue}
use Rattle.op_issue.proofs.Sealable as ids
use Rattle.op_issue.specs.declared.sign_out.SignOut.{SignOut}
use Rattle.op_issue.specs.LogoutTokens.{logout_claims, issued_logout}
use Rattle.op_issue.specs.Ending.{MayEnd}
use Rattle.op_issue.proofs.LogoutSealable.{sealable}

pub logout_is_no_id : (c : Configuration) (client : ℕ) (out : SignOut) (key : Text) (x : IdClaims) (rules : IdRules) (at : ℕ) → MayEnd c client out → id_read key (issued_logout c client out) ≡ Ok x
    → IsGoodIdToken rules x at → ⊥
unfolding issued_logout
logout_is_no_id c client out key x rules at m read good =
    sealed_logout_no_id_token (client_sealing c client) key (logout_claims c client out) x rules at (sealable c client out m) read good

no_jti : (c : Configuration) (wish : Wish) (who : Authentication) (at : ℕ) (access code : Option Word) → get_member (codes "jti") (id_claims c wish who at access code).more ≡ None
unfolding id_claims is_claim_of profile_claims email_claims address_claims phone_claims
no_jti c wish who at access code = unknown_is_absent c who.user (id_scopes wish) wish.id_asked (codes "jti") refl

pub id_is_no_logout : (c : Configuration) (wish : Wish) (who : Authentication) (at : ℕ) (access code : Option Word) (key : Text) (y : LogoutClaims) → MayIssue c wish who at → IsWishValue wish
    → logout_read key (issued_id c wish who at access code) ≡ Ok y → ⊥
unfolding issued_id
id_is_no_logout c wish who at access code key y m value read =
    sealed_id_no_logout_token (client_sealing c wish.client) key (id_claims c wish who at access code) y (ids.sealable c wish who at access code m value) (no_jti c wish who at access code) read

-- ---- no request object: the issuer is the id of no client

id_at : (issuer : Text) (ks : List Client) (n : ℕ) (k : Client) → AllByRecursion (λ (j : Client). bytes_eq j.id issuer ≡ false) ks → slice_get ks n ≡ Some k → bytes_eq k.id issuer ≡ false
id_at issuer [] zero k h is = absurd (cc)
id_at issuer [] (suc n) k h is = absurd (cc)
id_at issuer (j ∷ ks) zero k h is =
    let same : j ≡ k = cc in
    let E : Client → Type 0 = λ x. bytes_eq x.id issuer ≡ false in
    subst E same h.0
id_at issuer (j ∷ ks) (suc n) k h is = id_at issuer ks n k h.1 is

issuer_is_no_client : (c : Configuration) (n : ℕ) (k : Client) → IsRegistry c → client_at c n ≡ Some k → c.provider.issuer ≡ k.id → ⊥
issuer_is_no_client c n k r is same =
    let apart = id_at c.provider.issuer c.clients n k r.issuer_apart is in
    true≢false (sym ((bytes_eq-Decides k.id c.provider.issuer).1 (sym same)) ∙ apart)

pub logout_is_no_request : (c : Configuration) (client : ℕ) (out : SignOut) (n : ℕ) (k : Client) (issuer : Text) (p : Params) → MayEnd c client out → client_at c n ≡ Some k
    → request_read k issuer (issued_logout c client out) ≡ Ok p → ⊥
unfolding issued_logout logout_claims
logout_is_no_request c client out n k issuer p m is read =
    sealed_logout_no_request k issuer (client_sealing c client) (logout_claims c client out) p (issuer_is_no_client c n k m.registry is) (sealable c client out m) read

pub id_is_no_request : (c : Configuration) (wish : Wish) (who : Authentication) (at : ℕ) (access code : Option Word) (n : ℕ) (k : Client) (issuer : Text) (p : Params) → MayIssue c wish who at → IsWishValue wish
    → client_at c n ≡ Some k → request_read k issuer (issued_id c wish who at access code) ≡ Ok p → ⊥
unfolding issued_id id_claims
id_is_no_request c wish who at access code n k issuer p m value is read =
    sealed_id_no_request k issuer (client_sealing c wish.client) (id_claims c wish who at access code) p (issuer_is_no_client c n k m.registry is) (ids.sealable c wish who at access code m value) read
