-- What a logout token is, in the standard's words: a sealed claim set that contains its claims and the logout event, and no
-- nonce (OpenID Connect Back-Channel Logout 1.0, 2.4). Then the errors for other texts, in order (2.6).
use Rattle.std.specs.Prelude.{◌≡◌, ◌<◌, ◌^◌, ◌⊎◌, ℕ, List, [], ◌∷◌, Bool, not, ◌&&◌, ◌||◌, Option, Some, None, option_map, option_and_then, is_some, is_none}
use Rattle.std.specs.Prelude.{codes, IsTrue, IfSome}
use Rattle.std.specs.Str.{str_to_ascii_lowercase}
use Rattle.serde_json.specs.Data.{string, object, Members}
use Rattle.serde_json.specs.Find.{get_member, as_str}
use Rattle.claim_set.specs.Building.{number_value}
use Rattle.claim_set.specs.Kinds.{data_texts, small_number, another_kind, absent}
use Rattle.claim_set.specs.Reading.{Reads}
use Rattle.jws_compact.specs.Jws.{Sealed, typ_of}
use Rattle.logout_token.specs.declared.claims.LogoutClaims.{LogoutClaims}
use Rattle.logout_token.specs.declared.no.LogoutNo.{LogoutNo}
use Rattle.logout_token.specs.declared.no.LogoutNo.TheVariants.{Claims, WrongTyp, Missing, NoEvent, HasNonce, NamesNobody}
use Rattle.logout_token.specs.LogoutToken.{event_name, typ_fits, has_event}

-- `events` is an object, and its member for the logout event is an object
pub record HasEvent (ms : Members) : Type 0 where
  pub inside : Members
  pub event : Members
  pub events_are : get_member (codes "events") ms ≡ Some (object inside)
  pub event_is : get_member event_name inside ≡ Some (object event)

-- the claim set contains the claims x, each under its name; an audience is one string or an array of strings
pub record HasLogoutClaims (ms : Members) (x : LogoutClaims) : Type 0 where
  pub iss : get_member (codes "iss") ms ≡ Some (string x.iss)
  pub aud : option_and_then data_texts (get_member (codes "aud") ms) ≡ Some x.aud
  pub iat : get_member (codes "iat") ms ≡ Some (number_value x.iat)
  pub exp : get_member (codes "exp") ms ≡ Some (number_value x.exp)
  pub jti : get_member (codes "jti") ms ≡ Some (string x.jti)
  pub sub : get_member (codes "sub") ms ≡ option_map string x.sub
  pub sid : get_member (codes "sid") ms ≡ option_map string x.sid
  pub event : HasEvent ms
  pub no_nonce : get_member (codes "nonce") ms ≡ None
  pub names : IsTrue (is_some x.sub || is_some x.sid)
  pub iat_fits : x.iat < 2 ^ 40
  pub exp_fits : x.exp < 2 ^ 40

-- `typ` is absent, or is one of the two, ignoring ASCII case
abbrev pub IsLogoutTyp : Option (List ℕ) → Type 0
IsLogoutTyp typ = IfSome typ (λ t. (str_to_ascii_lowercase t ≡ codes "jwt") ⊎ (str_to_ascii_lowercase t ≡ codes "logout+jwt"))

-- the text t is a logout token under the key k, with the claims x
pub record IsLogoutToken (k t : List ℕ) (x : LogoutClaims) : Type 0 where
  pub header : List ℕ
  pub payload : List ℕ
  pub claims : Members
  pub sealed : Sealed k header payload t
  pub kind : IsLogoutTyp (typ_of header)
  pub reads : Reads payload claims
  pub has : HasLogoutClaims claims x

-- ---- the errors of a claim set with a header's `typ`: first the claims of another kind, in the order of their names, then
-- `typ`, then absent claims, then forbidden ones

abbrev pub logout_refusals : Option (List ℕ) → Members → List (Bool × LogoutNo)
logout_refusals typ ms =
    another_kind Claims (codes "aud") data_texts ms
    ∷ another_kind Claims (codes "exp") small_number ms
    ∷ another_kind Claims (codes "iat") small_number ms
    ∷ another_kind Claims (codes "iss") as_str ms
    ∷ another_kind Claims (codes "jti") as_str ms
    ∷ another_kind Claims (codes "sid") as_str ms
    ∷ another_kind Claims (codes "sub") as_str ms
    ∷ (not (typ_fits typ), WrongTyp)
    ∷ absent Missing (codes "iss") ms
    ∷ absent Missing (codes "aud") ms
    ∷ absent Missing (codes "iat") ms
    ∷ absent Missing (codes "exp") ms
    ∷ absent Missing (codes "jti") ms
    ∷ (not (has_event ms), NoEvent)
    ∷ (is_some (get_member (codes "nonce") ms), HasNonce)
    ∷ (is_none (get_member (codes "sub") ms) && is_none (get_member (codes "sid") ms), NamesNobody) ∷ []
