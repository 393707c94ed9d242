-- The endpoints of a registry's provider keep the rule for URLs: they stand below an issuer of at most 200 bytes that has
-- no query. Their paths are those that are served.
use Rattle.std.proofs.Common.{◌≡◌, ◌≤◌, ℕ, true, List, ◌++◌, length, Option, Some, None, is_some, refl, sym, ap, ◌∙◌, subst, arith, length-append, true≢false}
use Rattle.std.specs.Prelude.{IfSome}
use Rattle.percent_encoding.specs.Percent.{percent_encode}
use Rattle.url.proofs.OnLiterals.{url_on_literals}
use Rattle.registered_url.specs.declared.web_url.WebUrl.{WebUrl}
use Rattle.registered_url.specs.Rule.{url_of}
use Rattle.registered_url.proofs.Below.{IsPathText, UrlBelow, path_below}
use Rattle.oidc_words.specs.Paths as paths
use Rattle.client_registry.specs.declared.records.Provider.{Provider}
use Rattle.client_registry.specs.Records.{without_slash, endpoint}
use Rattle.client_registry.specs.Configuration.{Configuration}
use Rattle.client_registry.specs.Registered.{IsIssuerUrl, IsRegistry}
use Rattle.client_registry.proofs.Slashes.{Cut, cut_of, below_path}

-- ---- a path below an issuer

short_below : (front path : List ℕ) → length front ≤ 200 → length path ≤ 312 → length (front ++ path) ≤ 512
short_below front path h g = omega (arith, length-append front path, h, g)

below : (issuer path : List ℕ) (u : WebUrl) → url_of issuer ≡ Some u → u.query ≡ None → length issuer ≤ 200 → IsPathText path → length path ≤ 312 → UrlBelow (endpoint issuer path) path u
below issuer path u is query short p few =
    let c : Cut issuer = cut_of issuer in
    path_below (without_slash issuer) c.tail path u c.cut p
    (short_below (without_slash issuer) path (omega (arith, short, ap length c.whole, length-append (without_slash issuer) c.tail)) few)
    (ap url_of (sym c.whole) ∙ is) query

record Issuer (c : Configuration) : Type 0 where
  url : WebUrl
  is : url_of c.provider.issuer ≡ Some url
  rules : IsIssuerUrl c url

issuer_at : (c : Configuration) (o : Option WebUrl) → url_of c.provider.issuer ≡ o → is_some o ≡ true → IfSome o (IsIssuerUrl c) → Issuer c
issuer_at c None is h r = absurd (true≢false (sym h))
issuer_at c (Some u) is h r = record { url = u; is = is; rules = r }

-- what is told of a path is its URL, which has the path that is served
record Advertised (c : Configuration) (path : List ℕ) : Type 0 where
  url : WebUrl
  is : url_of (endpoint c.provider.issuer path) ≡ Some url
  served : url.path ≡ c.prefix ++ path

advertised : (c : Configuration) (path : List ℕ) → IsRegistry c → IsPathText path → length path ≤ 312 → Advertised c path
advertised c path r p few =
    let issuer : Issuer c = issuer_at c (url_of c.provider.issuer) refl r.issuer r.issuer_url in
    let b : UrlBelow (endpoint c.provider.issuer path) path issuer.url = below c.provider.issuer path issuer.url issuer.is issuer.rules.query r.short_issuer p few in
    record {
      url = b.url;
      is = b.is;
      served = below_path issuer.url.path path b.url.path b.below ∙ ap (λ t. t ++ path) (sym issuer.rules.prefix);
    }

-- the path of the URL of a text, where it is one, is served
abbrev pub IsServed : Configuration → List ℕ → List ℕ → Type 0
IsServed c path t = IfSome (url_of t) (λ u. u.path ≡ c.prefix ++ path)

pub endpoint_url : (c : Configuration) (path : List ℕ) → IsRegistry c → IsPathText path → length path ≤ 312 → is_some (url_of (endpoint c.provider.issuer path)) ≡ true
endpoint_url c path r p few = ap is_some (advertised c path r p few).is

pub endpoint_served : (c : Configuration) (path : List ℕ) → IsRegistry c → IsPathText path → length path ≤ 312 → IsServed c path (endpoint c.provider.issuer path)
endpoint_served c path r p few =
    let a : Advertised c path = advertised c path r p few in
    subst (λ (o : Option WebUrl). IfSome o (λ u. u.path ≡ c.prefix ++ path)) (sym a.is) a.served

-- ---- the four endpoints

authorize_path : IsPathText paths.authorize_path
unfolding url_on_literals percent_encode
authorize_path = record { added = (refl, λ q. refl); visible = refl; unmarked = (refl, refl) }

token_path : IsPathText paths.token_path
unfolding url_on_literals percent_encode
token_path = record { added = (refl, λ q. refl); visible = refl; unmarked = (refl, refl) }

userinfo_path : IsPathText paths.userinfo_path
unfolding url_on_literals percent_encode
userinfo_path = record { added = (refl, λ q. refl); visible = refl; unmarked = (refl, refl) }

keys_path : IsPathText paths.keys_path
unfolding url_on_literals percent_encode
keys_path = record { added = (refl, λ q. refl); visible = refl; unmarked = (refl, refl) }

pub authorize_url : (c : Configuration) → IsRegistry c → is_some (url_of c.provider.authorize) ≡ true
authorize_url c r = ap (λ (p : Provider). is_some (url_of p.authorize)) r.provider ∙ endpoint_url c paths.authorize_path r authorize_path (omega arith)

pub token_url : (c : Configuration) → IsRegistry c → is_some (url_of c.provider.token) ≡ true
token_url c r = ap (λ (p : Provider). is_some (url_of p.token)) r.provider ∙ endpoint_url c paths.token_path r token_path (omega arith)

pub userinfo_url : (c : Configuration) → IsRegistry c → IfSome c.provider.userinfo (λ t. is_some (url_of t) ≡ true)
userinfo_url c r =
    subst (λ (p : Provider). IfSome p.userinfo (λ t. is_some (url_of t) ≡ true)) (sym r.provider) (endpoint_url c paths.userinfo_path r userinfo_path (omega arith))

pub keys_url : (c : Configuration) → IsRegistry c → is_some (url_of (endpoint c.provider.issuer paths.keys_path)) ≡ true
keys_url c r = endpoint_url c paths.keys_path r keys_path (omega arith)

pub authorize_served : (c : Configuration) → IsRegistry c → IsServed c paths.authorize_path c.provider.authorize
authorize_served c r =
    subst (λ (p : Provider). IsServed c paths.authorize_path p.authorize) (sym r.provider) (endpoint_served c paths.authorize_path r authorize_path (omega arith))

pub token_served : (c : Configuration) → IsRegistry c → IsServed c paths.token_path c.provider.token
token_served c r =
    subst (λ (p : Provider). IsServed c paths.token_path p.token) (sym r.provider) (endpoint_served c paths.token_path r token_path (omega arith))

pub userinfo_served : (c : Configuration) → IsRegistry c → IfSome c.provider.userinfo (IsServed c paths.userinfo_path)
userinfo_served c r =
    subst (λ (p : Provider). IfSome p.userinfo (IsServed c paths.userinfo_path)) (sym r.provider) (endpoint_served c paths.userinfo_path r userinfo_path (omega arith))

pub keys_served : (c : Configuration) → IsRegistry c → IsServed c paths.keys_path (endpoint c.provider.issuer paths.keys_path)
keys_served c r = endpoint_served c paths.keys_path r keys_path (omega arith)
