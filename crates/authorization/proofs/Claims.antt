-- The claims that are answered belong to the scope values that the wish needs.
use Rattle.std.proofs.Common.{◌≡◌, ℕ, Bool, true, false, ◌&&◌, ◌||◌, cond, List, Some, None, refl, sym, ◌∙◌, ◌⊎◌, inl, inr}
use Rattle.std.proofs.lemmas.Bool.{and_parts, or_left, or_right}
use Rattle.sso_base.specs.Words.{Text}
use Rattle.sso_base.proofs.RowLaws.{bool_cases}
use Rattle.client_registry.specs.Configuration.{Configuration}
use Rattle.oidc_words.specs.declared.scopes.Scopes.{Scopes}
use Rattle.oidc_words.specs.Words.{is_one_of}
use Rattle.oidc_words.specs.Scopes.{no_scopes, joined}
use Rattle.oidc_words.specs.Claims.{is_claim_of, is_standard_claim, scopes_with_any}
use Rattle.oidc_words.proofs.Asking.{asks_either, none_asks, asked_by_its_scope, covers_each_of}
use Rattle.auth_request.specs.declared.wish.Wish.{Wish}
use Rattle.user_interaction.specs.Need.{needed_scopes}
use Rattle.userinfo.specs.Held.{is_wanted, held_members, info_members}
use Rattle.userinfo.proofs.Told.{wanted_is_told, unwanted_is_untold, wanted_is_held, unwanted_is_absent}
use Rattle.op_issue.specs.IdTokens.{is_id_alone, id_scopes}
use Rattle.authorization.specs.Authorized.{AreNeeded}

pub either : (x y : Bool) → (x || y) ≡ true → (x ≡ true) ⊎ (y ≡ true)
either true y h = inl refl
either false y h = inr h

-- the scope values of the claims that are asked for by name ask for each of these that is standard
any_asks : (k : Text) (ks : List Text) → is_standard_claim k ≡ true → is_one_of ks k ≡ true → is_claim_of (scopes_with_any ks) k ≡ true
any_asks k ks standard one = asked_by_its_scope (scopes_with_any ks) k standard ∙ covers_each_of k ks one

-- ---- what a wish needs

scopes_needed : (wish : Wish) (k : Text) → is_claim_of wish.scopes k ≡ true → is_claim_of (needed_scopes wish) k ≡ true
unfolding needed_scopes
scopes_needed wish k h =
    let rest : Scopes = joined (scopes_with_any wish.id_asked) (scopes_with_any wish.info_asked) in
    asks_either wish.scopes rest k ∙ or_left (is_claim_of wish.scopes k) (is_claim_of rest k) h

id_needed : (wish : Wish) (k : Text) → is_claim_of (scopes_with_any wish.id_asked) k ≡ true → is_claim_of (needed_scopes wish) k ≡ true
unfolding needed_scopes
id_needed wish k h =
    let one : Scopes = scopes_with_any wish.id_asked in
    let other : Scopes = scopes_with_any wish.info_asked in
    asks_either wish.scopes (joined one other) k
    ∙ or_right (is_claim_of wish.scopes k) (is_claim_of (joined one other) k) (asks_either one other k ∙ or_left (is_claim_of one k) (is_claim_of other k) h)

info_needed : (wish : Wish) (k : Text) → is_claim_of (scopes_with_any wish.info_asked) k ≡ true → is_claim_of (needed_scopes wish) k ≡ true
unfolding needed_scopes
info_needed wish k h =
    let one : Scopes = scopes_with_any wish.id_asked in
    let other : Scopes = scopes_with_any wish.info_asked in
    asks_either wish.scopes (joined one other) k
    ∙ or_right (is_claim_of wish.scopes k) (is_claim_of (joined one other) k) (asks_either one other k ∙ or_right (is_claim_of one k) (is_claim_of other k) h)

-- ---- UserInfo

info_wanted : (wish : Wish) (k : Text) → is_wanted wish.scopes wish.info_asked k ≡ true → is_claim_of (needed_scopes wish) k ≡ true
info_wanted wish k wanted =
    elim (either (is_claim_of wish.scopes k) (is_standard_claim k && is_one_of wish.info_asked k) wanted) [
      | inl scope ↦ scopes_needed wish k scope
      | inr named ↦
          (let both = and_parts (is_standard_claim k) (is_one_of wish.info_asked k) named in
          info_needed wish k (any_asks k wish.info_asked both.0 both.1))
    ]

pub info_needs : (c : Configuration) (wish : Wish) (user : ℕ) → AreNeeded c wish user (info_members c wish.client user wish.scopes wish.info_asked)
info_needs c wish user k d other told =
    elim (bool_cases (is_wanted wish.scopes wish.info_asked k)) [
      | inl wanted ↦ (sym (wanted_is_told c wish.client user wish.scopes wish.info_asked k other wanted) ∙ told, info_wanted wish k wanted)
      | inr unwanted ↦ (let never : None ≡ Some d = sym (unwanted_is_untold c wish.client user wish.scopes wish.info_asked k other unwanted) ∙ told in cc)
    ]

-- ---- ID Tokens

alone_needed : (wish : Wish) (k : Text) (alone : Bool) → is_claim_of (cond alone wish.scopes no_scopes) k ≡ true → is_claim_of (needed_scopes wish) k ≡ true
alone_needed wish k true h = scopes_needed wish k h
alone_needed wish k false h = (let never : false ≡ true = sym (none_asks k) ∙ h in cc)

id_wanted : (wish : Wish) (k : Text) → is_wanted (id_scopes wish) wish.id_asked k ≡ true → is_claim_of (needed_scopes wish) k ≡ true
id_wanted wish k wanted =
    elim (either (is_claim_of (id_scopes wish) k) (is_standard_claim k && is_one_of wish.id_asked k) wanted) [
      | inl scope ↦ alone_needed wish k (is_id_alone wish.types) scope
      | inr named ↦
          (let both = and_parts (is_standard_claim k) (is_one_of wish.id_asked k) named in
          id_needed wish k (any_asks k wish.id_asked both.0 both.1))
    ]

pub id_needs : (c : Configuration) (wish : Wish) (user : ℕ) → AreNeeded c wish user (held_members c user (id_scopes wish) wish.id_asked)
id_needs c wish user k d other told =
    elim (bool_cases (is_wanted (id_scopes wish) wish.id_asked k)) [
      | inl wanted ↦ (sym (wanted_is_held c user (id_scopes wish) wish.id_asked k wanted) ∙ told, id_wanted wish k wanted)
      | inr unwanted ↦ (let never : None ≡ Some d = sym (unwanted_is_absent c user (id_scopes wish) wish.id_asked k unwanted) ∙ told in cc)
    ]
