-- What a registry keeps of its parties: the client of each is there, the path of its redirection URI is not one of its own, and
-- that of its client's logout URI is neither of them.
use Rattle.std.proofs.Common.{◌≡◌, ◌<◌, ℕ, zero, suc, List, [], ◌∷◌, length, Bool, true, false, ◌||◌, Option, Some, None, option_map, option_and_then, unwrap_or, slice_get, inl, inr, refl, sym, ◌∙◌, ap, subst}
use Rattle.std.specs.Prelude.{IfSome}
use Rattle.std.specs.List.{AllByRecursion}
use Rattle.std.specs.Str.{bytes_eq}
use Rattle.sso_base.specs.Texts.{has_text}
use Rattle.sso_base.specs.Words.{Text}
use Rattle.registered_url.specs.declared.web_url.WebUrl.{WebUrl}
use Rattle.client_registry.specs.declared.records.Client.{Client}
use Rattle.client_registry.specs.declared.records.Party.{Party}
use Rattle.client_registry.specs.Configuration.{Configuration}
use Rattle.client_registry.specs.Numbers.{client_at, party_at, party_row, no_party}
use Rattle.client_registry.specs.Registered.{IsParty, FitsClient, IsLogoutOf, IsRegistry}
use Rattle.configuration_rows.specs.Rows.{has_path}
use Rattle.oidc_words.specs.declared.response_types.Types.{Types}
use Rattle.oidc_words.specs.Paths.{home_path, begin_path, leave_path}
use Rattle.sso_base.proofs.RowLaws.{bool_cases, bytes_same, bytes_true, bytes_turn}
use Rattle.rp_request.specs.Prepared.{logout_path_of, logout_path}

same_party : (p q : Party) → Some p ≡ Some q → p ≡ q
same_party p q h = cc

-- what is kept of all parties is kept of one
at_place : (P : Party → Type 0) (ps : List Party) (n : ℕ) (p : Party) → AllByRecursion P ps → slice_get ps n ≡ Some p → P p
at_place P [] n p all is = absurd (cc)
at_place P (q ∷ ps) zero p all is = subst P (same_party q p is) all.0
at_place P (q ∷ ps) (suc n) p all is = at_place P ps n p all.1 is

pub known_client : (c : Configuration) (n : ℕ) (party : Party) → IsRegistry c → party_at c n ≡ Some party → party.client < length c.clients
known_client c n party r is = at_place (λ (p : Party). p.client < length c.clients) c.parties n party r.known is

pub neither : (a b : Bool) → (a || b) ≡ false → (a ≡ false) × (b ≡ false)
neither true b h = absurd (cc)
neither false b h = (refl, h)

pub row_there : (c : Configuration) (n : ℕ) (party : Party) → party_at c n ≡ Some party → party.types ≡ (party_row c n).types
row_there c n party is =
    let T : Option Party → Types = λ o. (unwrap_or o no_party).types in
    sym (ap T is)

pub record HasOtherPath (party : Party) : Type 0 where
  pub home : bytes_eq party.redirect_url.path home_path ≡ false
  pub login : bytes_eq party.redirect_url.path begin_path ≡ false
  pub leave : bytes_eq party.redirect_url.path leave_path ≡ false

other_path : (party : Party) → IsParty party → HasOtherPath party
other_path party rules =
    let path = party.redirect_url.path in
    let first = neither (bytes_eq path home_path) (has_text path (begin_path ∷ leave_path ∷ [])) rules.path in
    let second = neither (bytes_eq path begin_path) (has_text path (leave_path ∷ [])) first.1 in
    let third = neither (bytes_eq path leave_path) false second.1 in
    record { home = first.0; login = second.0; leave = third.0 }

pub redirects_elsewhere : (c : Configuration) (n : ℕ) (party : Party) → IsRegistry c → slice_get c.parties n ≡ Some party → HasOtherPath party
redirects_elsewhere c n party r is = other_path party (at_place IsParty c.parties n party r.party_rules is)

bytes_swap : (v w : Text) → bytes_eq v w ≡ bytes_eq w v
bytes_swap v w =
    elim (bool_cases (bytes_eq v w)) [
      | inl e ↦ e ∙ sym (bytes_true w v (sym (bytes_same v w e)))
      | inr e ↦ e ∙ sym (bytes_turn v w e)
    ]

-- a logout path is neither that of the redirection URI nor that at which users leave
pub record IsApart (party : Party) (path : Text) : Type 0 where
  pub redirect : bytes_eq path party.redirect_url.path ≡ false
  pub leave : bytes_eq path leave_path ≡ false

apart_of : (party : Party) (client : Client) (url : Option WebUrl) → client.logout_url ≡ url → FitsClient party client → IfSome (option_map (λ (u : WebUrl). u.path) url) (IsApart party)
apart_of party client None is fits = tt
apart_of party client (Some url) is fits =
    let H : Option WebUrl → Bool = λ o. has_path party.redirect_url.path o in
    let L : Option WebUrl → Type 0 = λ o. IfSome o (IsLogoutOf party) in
    let of : L (Some url) = subst L is fits.logout_of in
    record { redirect = bytes_swap url.path party.redirect_url.path ∙ sym (ap H is) ∙ fits.logout; leave = of.path }

logout_of : (party : Party) (found : Option Client) → IfSome found (FitsClient party) → IfSome (option_and_then logout_path_of found) (IsApart party)
logout_of party None fits = tt
logout_of party (Some client) fits = apart_of party client client.logout_url refl fits

pub logs_out_elsewhere : (c : Configuration) (n : ℕ) (party : Party) → IsRegistry c → slice_get c.parties n ≡ Some party → IfSome (logout_path c party) (IsApart party)
logs_out_elsewhere c n party r is =
    logout_of party (client_at c party.client) (at_place (λ (p : Party). IfSome (client_at c p.client) (FitsClient p)) c.parties n party r.fitting is)
