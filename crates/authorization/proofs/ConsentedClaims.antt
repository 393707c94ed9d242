-- The claims that are answered are those that the user granted the client.
use Rattle.std.proofs.Common.{◌≡◌, ℕ, Bool, true, ◌&&◌, ◌||◌, [], ◌∷◌, ◌++◌, sym, subst, inl, inr}
use Rattle.std.proofs.lemmas.Bool.{and_parts}
use Rattle.sso_base.specs.Words.{Word, Text}
use Rattle.client_registry.specs.Configuration.{Configuration}
use Rattle.oidc_words.specs.declared.scopes.Scopes.{Scopes}
use Rattle.oidc_words.specs.Words.{is_one_of}
use Rattle.oidc_words.specs.Claims.{profile_claims, email_claims, address_claims, phone_claims, is_claim_of}
use Rattle.auth_request.specs.declared.wish.Wish.{Wish}
use Rattle.auth_answer.specs.declared.answer.Answer.{Answer}
use Rattle.user_interaction.specs.Need.{needed_scopes}
use Rattle.userinfo.specs.Held.{held_members, info_members}
use Rattle.code_grant.specs.declared.rows.SessionRow.{SessionRow}
use Rattle.op_issue.specs.IdTokens.{id_scopes}
use Rattle.op_answer.specs.Past.{OpPast}
use Rattle.op_answer.specs.Granted.{Granted}
use Rattle.authorization.specs.Consented.{SaidYesTo, HasConsent, SaidYesToClaim, HasConsentTo}
use Rattle.authorization.specs.Authorized.{IsAuthorized, HasCode, HasAccess, HasId, IsRedeemed, IsAccessFor, AreConsented}
use Rattle.authorization.proofs.Claims.{either, info_needs, id_needs}
use Rattle.authorization.proofs.Consenting.{granted_more}

-- ---- consent stays

granted_later : (later past : OpPast) (user client : ℕ) (has : Scopes → Bool) → Granted past user client has → Granted (later ++ past) user client has
granted_later [] past user client has g = g
granted_later (p ∷ later) past user client has g = granted_more p (later ++ past) user client has (granted_later later past user client has g)

said_later : (later past : OpPast) (user client : ℕ) (scopes : Scopes) → SaidYesTo past user client scopes → SaidYesTo (later ++ past) user client scopes
said_later later past user client scopes said =
    record {
      openid = λ k. granted_later later past user client (λ s. s.openid) (said.openid k);
      profile = λ k. granted_later later past user client (λ s. s.profile) (said.profile k);
      email = λ k. granted_later later past user client (λ s. s.email) (said.email k);
      address = λ k. granted_later later past user client (λ s. s.address) (said.address k);
      phone = λ k. granted_later later past user client (λ s. s.phone) (said.phone k);
    }

consent_later : (c : Configuration) (later past : OpPast) (user client : ℕ) (scopes : Scopes) → HasConsent c past user client scopes → HasConsent c (later ++ past) user client scopes
consent_later c later past user client scopes (inl none) = inl none
consent_later c later past user client scopes (inr said) = inr (said_later later past user client scopes said)

consent_at : (c : Configuration) (whole later past : OpPast) (user client : ℕ) (scopes : Scopes) → whole ≡ later ++ past → HasConsent c past user client scopes → HasConsent c whole user client scopes
consent_at c whole later past user client scopes parts consent =
    let H : OpPast → Type 0 = λ q. HasConsent c q user client scopes in
    subst H (sym parts) (consent_later c later past user client scopes consent)

authorized_consent : (c : Configuration) (past : OpPast) (Is : Answer → Type 0) (wish : Wish) (session : SessionRow) → IsAuthorized c past Is wish session → HasConsent c past session.user wish.client (needed_scopes wish)
authorized_consent c past Is wish session a = consent_at c past a.later (a.pair ∷ a.earlier) session.user wish.client (needed_scopes wish) a.parts a.authorizes.consented

access_consent : (c : Configuration) (past : OpPast) (access : Word) (wish : Wish) (session : SessionRow) → IsAccessFor c past access wish session → HasConsent c past session.user wish.client (needed_scopes wish)
access_consent c past access wish session (inl a) = authorized_consent c past (HasAccess access) wish session a
access_consent c past access wish session (inr r) =
    let before = authorized_consent c r.earlier (HasCode r.redeems.code) wish session r.redeems.authorized in
    consent_at c past r.later (r.pair ∷ r.earlier) session.user wish.client (needed_scopes wish) r.parts
    (consent_later c (r.pair ∷ []) r.earlier session.user wish.client (needed_scopes wish) before)

-- ---- of each claim

claim_yes : (past : OpPast) (user client : ℕ) (scopes : Scopes) (name : Text) → SaidYesTo past user client scopes → is_claim_of scopes name ≡ true → SaidYesToClaim past user client name
unfolding is_claim_of
claim_yes past user client s name said h =
    let a : Bool = s.profile && is_one_of profile_claims name in
    let b : Bool = s.email && is_one_of email_claims name in
    let d : Bool = s.address && is_one_of address_claims name in
    let e : Bool = s.phone && is_one_of phone_claims name in
    elim (either (a || b || d) e h) [
      | inl most ↦
          elim (either (a || b) d most) [
            | inl two ↦
                elim (either a b two) [
                  | inl one ↦ (let both = and_parts s.profile (is_one_of profile_claims name) one in inl (both.1, said.profile both.0))
                  | inr one ↦ (let both = and_parts s.email (is_one_of email_claims name) one in inr (inl (both.1, said.email both.0)))
                ]
            | inr one ↦ (let both = and_parts s.address (is_one_of address_claims name) one in inr (inr (inl (both.1, said.address both.0))))
          ]
      | inr one ↦ (let both = and_parts s.phone (is_one_of phone_claims name) one in inr (inr (inr (both.1, said.phone both.0))))
    ]

claim_consent : (c : Configuration) (past : OpPast) (user client : ℕ) (scopes : Scopes) (name : Text) → HasConsent c past user client scopes → is_claim_of scopes name ≡ true → HasConsentTo c past user client name
claim_consent c past user client scopes name (inl none) h = inl none
claim_consent c past user client scopes name (inr said) h = inr (claim_yes past user client scopes name said h)

pub info_is_consented : (c : Configuration) (past : OpPast) (access : Word) (wish : Wish) (session : SessionRow) → IsAccessFor c past access wish session
    → AreConsented c past session.user wish.client (info_members c wish.client session.user wish.scopes wish.info_asked)
info_is_consented c past access wish session given name value other told =
    let needs = info_needs c wish session.user name value other told in
    (needs.0, claim_consent c past session.user wish.client (needed_scopes wish) name (access_consent c past access wish session given) needs.1)

module _ (c : Configuration) (past : OpPast) (wish : Wish) (session : SessionRow) where
  id_of : HasConsent c past session.user wish.client (needed_scopes wish) → AreConsented c past session.user wish.client (held_members c session.user (id_scopes wish) wish.id_asked)
  id_of consent name value other told =
      let needs = id_needs c wish session.user name value other told in
      (needs.0, claim_consent c past session.user wish.client (needed_scopes wish) name consent needs.1)

  pub id_is_consented : (id : Text) → IsAuthorized c past (HasId id) wish session → AreConsented c past session.user wish.client (held_members c session.user (id_scopes wish) wish.id_asked)
  id_is_consented id given = id_of (authorized_consent c past (HasId id) wish session given)

  pub redeemed_is_consented : (access : Word) → IsRedeemed c past access wish session → AreConsented c past session.user wish.client (held_members c session.user (id_scopes wish) wish.id_asked)
  redeemed_is_consented access given = id_of (access_consent c past access wish session (inr given))
