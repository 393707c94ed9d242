-- The invariants of error responses and of granted wishes.
use Rattle.std.specs.Prelude.{◌≡◌, ◌<◌, ◌≤◌, ◌^◌, ℕ, true, false, ◌||◌, List, length, map, codes, Some, is_some, slice_get, IfSome}
use Rattle.oidc_words.specs.Prompts.{none_word, login_word, consent_word, account_word}
use Rattle.sso_base.specs.Texts.{has_text}
use Rattle.oidc_words.specs.Words.{parameter_words}
use Rattle.oidc_words.specs.Types.{is_response_type, types_of_number}
use Rattle.client_registry.specs.declared.records.Client.{Client}
use Rattle.client_registry.specs.Configuration.{Configuration}
use Rattle.client_registry.specs.Numbers.{client_at}
use Rattle.client_registry.specs.Registered.{AreApart}
use Rattle.request_params.specs.declared.params.Params.{Params}
use Rattle.auth_request.specs.declared.wish.Wish.{Wish}
use Rattle.auth_request.specs.Parameters.{type_of, age_of}
use Rattle.oidc_words.specs.Scopes.{scopes_among}

-- no two clients have the same id, as in every registry
abbrev pub ClientsAreApart : Configuration → Type 0
ClientsAreApart c = AreApart (map (λ (k : Client). k.id) c.clients)

-- the client with this number has the request's `client_id`, and the request's `redirect_uri` is this one and is registered for
-- the client (RFC 6749, 3.1.2.2 and 3.1.2.3)
pub record IsRegistered (c : Configuration) (p : Params) (number : ℕ) (uri : List ℕ) : Type 0 where
  pub client : Client
  pub there : client_at c number ≡ Some client
  pub named : p.client_id ≡ Some client.id
  pub asked : p.redirect_uri ≡ Some uri
  pub registered : has_text uri client.redirects ≡ true

-- the response type is one of the five whose response is in the fragment: one of the six, except `code` (OAuth 2.0 Multiple
-- Response Type Encoding Practices, 5)
pub record AnswersInFragment (p : Params) : Type 0 where
  pub text : List ℕ
  pub asked : p.response_type ≡ Some text
  pub known : is_response_type text ≡ true
  pub other : text ≡ codes "code" → ⊥

-- the invariant of granted wishes: the client is one of the registry's; the client has the redirect URI and the response type;
-- the scope has `openid`; a nonce is present if the authorization endpoint issues an ID Token, and has at most 255 bytes;
-- `none` has no other word next to it; and the age has at most nine digits
pub record IsWish (c : Configuration) (w : Wish) : Type 0 where
  pub below : w.client < length c.clients
  pub client : Client
  pub there : client_at c w.client ≡ Some client
  pub registered : has_text w.redirect client.redirects ≡ true
  pub number : ℕ
  pub types : w.types ≡ types_of_number (Some number)
  pub has_type : slice_get client.types number ≡ Some true
  pub openid : w.scopes.openid ≡ true
  pub nonce : w.types.id_token ≡ true → is_some w.nonce ≡ true
  pub short_nonce : IfSome w.nonce (λ t. length t ≤ 255)
  pub no_login : w.none ≡ true → w.login ≡ false
  pub no_consent : w.none ≡ true → w.consent ≡ false
  pub age : IfSome w.max_age (λ n. n < 10 ^ 9)

-- the wish has the contents of the parameters
pub record IsWishOf (p : Params) (w : Wish) : Type 0 where
  pub redirect : p.redirect_uri ≡ Some w.redirect
  pub types : w.types ≡ types_of_number (type_of p.response_type)
  pub scopes : w.scopes ≡ scopes_among (parameter_words p.scope)
  pub state : w.state ≡ p.state
  pub nonce : w.nonce ≡ p.nonce
  pub none : w.none ≡ has_text none_word (parameter_words p.prompt)
  pub login : w.login ≡ (has_text login_word (parameter_words p.prompt) || has_text account_word (parameter_words p.prompt))
  pub consent : w.consent ≡ has_text consent_word (parameter_words p.prompt)
  pub max_age : w.max_age ≡ age_of p.max_age
