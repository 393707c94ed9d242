-- A text that is read for a client is sealed under one of its secrets.
use Rattle.std.proofs.Common.{◌≡◌, ℕ, ◌<◌, ◌||◌, Bool, true, false, length, Option, Some, unwrap_or, Ok, ◌⊎◌, inl, inr, refl, sym, ap, ◌∙◌}
use Rattle.sso_base.specs.Words.{Text}
use Rattle.client_registry.specs.declared.records.Client.{Client}
use Rattle.client_registry.specs.Configuration.{Configuration}
use Rattle.client_registry.specs.Numbers.{client_at, party_row, party_client, no_client}
use Rattle.client_registry.specs.Registered.{IsRegistry}
use Rattle.client_registry.specs.Secrets.{has_secret}
use Rattle.client_keys.specs.Opening.{opening}
use Rattle.client_keys.proofs.Opened.{one_of_two, opening_is_own}
use Rattle.login_request.proofs.PartyRows.{client_is_known}
use Rattle.id_token.specs.declared.claims.IdClaims.{IdClaims}
use Rattle.logout_token.specs.declared.claims.LogoutClaims.{LogoutClaims}
use Rattle.rp_request.specs.Opened.{id_read_for, logout_read_for}
use Rattle.sso_places.specs.Tokens.{is_sealed, is_sealed_old, is_sealed_by, is_sealed_for}
use Rattle.sign_on.proofs.Registry.{get_some}
use Rattle.sign_on.proofs.Texts.{read_is_sealed, logout_is_sealed}

-- ---- sealed for a client

or_last : (a b : Bool) → b ≡ true → (a || b) ≡ true
or_last true b h = refl
or_last false b h = h

either : (secret : Text) (o : Option Text) (key t : Text) → (secret ≡ key) ⊎ (o ≡ Some key) → is_sealed key t ≡ true → (is_sealed secret t || is_sealed_old o t) ≡ true
either secret o key t (inl is) h = ap (λ b. b || is_sealed_old o t) (ap (λ k. is_sealed k t) is ∙ h)
either secret o key t (inr is) h = or_last (is_sealed secret t) (is_sealed_old o t) (ap (λ p. is_sealed_old p t) is ∙ h)

sealed_under : (c : Configuration) (client : ℕ) (k : Client) (key t : Text) → client_at c client ≡ Some k → has_secret key k ≡ true → is_sealed key t ≡ true → is_sealed_for c (client, t) ≡ true
sealed_under c client k key t there own h = ap (λ o. is_sealed_by o t) there ∙ either k.secret k.old_secret key t (one_of_two k.secret k.old_secret key own) h

-- the client of a party is one of the registry
pub its_client : (c : Configuration) (n : ℕ) → IsRegistry c → n < length c.parties → client_at c (party_row c n).client ≡ Some (party_client c n)
its_client c n r low =
    let found = get_some c.clients (party_row c n).client (client_is_known c n r low) in
    let U : Option Client → Client = λ o. unwrap_or o no_client in
    found.1 ∙ ap (λ (k : Client). Some k) (sym (ap U found.1))

pub id_sealed_for : (c : Configuration) (n : ℕ) (t : Text) (x : IdClaims) → IsRegistry c → n < length c.parties → id_read_for (party_client c n) t ≡ Ok x → is_sealed_for c ((party_row c n).client, t) ≡ true
id_sealed_for c n t x r low h =
    let k : Client = party_client c n in
    sealed_under c (party_row c n).client k (opening k t) t (its_client c n r low) (opening_is_own k t) (read_is_sealed (opening k t) t x h)

pub logout_sealed_for : (c : Configuration) (n : ℕ) (t : Text) (y : LogoutClaims) → IsRegistry c → n < length c.parties → logout_read_for (party_client c n) t ≡ Ok y → is_sealed_for c ((party_row c n).client, t) ≡ true
logout_sealed_for c n t y r low h =
    let k : Client = party_client c n in
    sealed_under c (party_row c n).client k (opening k t) t (its_client c n r low) (opening_is_own k t) (logout_is_sealed (opening k t) t y h)
