-- The invariant of every registry.
use Rattle.std.specs.Prelude.{◌≡◌, ◌≤◌, ◌<◌, ℕ, ◌==◌, ◌&&◌, Bool, true, false, List, [], ◌∷◌, length, map, codes, Option, Some, None, is_some, option_and_then}
use Rattle.std.specs.Prelude.{slice_get, IfSome, is_none, not}
use Rattle.std.specs.List.{AllByRecursion, list_any}
use Rattle.std.specs.Str.{bytes_eq, IsAscii}
use Rattle.base64.specs.GeneralPurpose.{IsBytes}
use Rattle.serde_json.specs.Data.{Members}
use Rattle.claim_set.specs.Fitting.{ClaimsFit}
use Rattle.claim_set.specs.Reading.{claims_text}
use Rattle.registered_url.specs.declared.web_url.WebUrl.{WebUrl}
use Rattle.registered_url.specs.Rule.{url_of, is_same_server}
use Rattle.client_registry.specs.declared.records.User.{User}
use Rattle.client_registry.specs.declared.records.Client.{Client}
use Rattle.client_registry.specs.declared.records.Party.{Party}
use Rattle.client_registry.specs.declared.records.PartySettings.{PartySettings}
use Rattle.configuration_rows.specs.declared.kind.Alphabet.TheVariants.{UserId, ClientId, PartyName, Visible}
use Rattle.sso_base.specs.Texts.{has_text}
use Rattle.configuration_rows.specs.Kinds.{is_name, is_within, are_urls}
use Rattle.oidc_words.specs.Scopes.{is_scope}
use Rattle.oidc_words.specs.Prompts.{is_prompt}
use Rattle.configuration_rows.specs.Rows.{own_paths, has_path, has_answer_name}
use Rattle.client_registry.specs.Records.{urls_of, without_slash, provider_of}
use Rattle.client_registry.specs.Secrets.{all_secrets}
use Rattle.oidc_words.specs.Paths.{leave_path}
use Rattle.oidc_words.specs.Types.{types_of_number}
use Rattle.client_registry.specs.Rules.{has_two_hosts, subjects_at}
use Rattle.client_registry.specs.Configuration.{Configuration}
use Rattle.client_registry.specs.ClaimKinds.{AreKnown}
use Rattle.client_registry.specs.Numbers.{client_at}

-- ---- distinctness

-- no text occurs twice
abbrev pub AreApart : List (List ℕ) → Type 0
AreApart [] = Unit {0}
AreApart (t ∷ ts) = (has_text t ts ≡ false) × AreApart ts

abbrev pub has_number : ℕ → List ℕ → Bool
has_number n ns = list_any (λ m. n == m) ns

-- no number occurs twice
abbrev pub NumbersAreApart : List ℕ → Type 0
NumbersAreApart [] = Unit {0}
NumbersAreApart (n ∷ ns) = (has_number n ns ≡ false) × NumbersAreApart ns

-- none of these texts is in the list
abbrev pub HasNoneOf : List (List ℕ) → List (List ℕ) → Type 0
HasNoneOf us ts = AllByRecursion (λ u. has_text u ts ≡ false) us

-- no text occurs in two of the lists
abbrev pub AreDisjoint : List (List (List ℕ)) → Type 0
AreDisjoint [] = Unit {0}
AreDisjoint (ts ∷ rest) = AllByRecursion (λ us. HasNoneOf us ts) rest × AreDisjoint rest

-- ---- rows

-- a user satisfies the rules of its row (its subject at a public client is its id: 1 to 64 characters of ASCII)
pub record IsUser (u : User) : Type 0 where
  pub id : is_name UserId 1 64 u.id ≡ true
  pub salt : is_within 1 64 (length u.salt) ≡ true
  pub salt_bytes : IsBytes u.salt
  pub rounds : is_within 1 1000000 u.rounds ≡ true
  pub proof : length u.proof ≡ 32
  pub proof_bytes : IsBytes u.proof
  pub claims : length u.claims ≤ 2048

-- the bytes are the JSON text of claims that fit, so reading them returns these claims: standard claims, each of its kind
pub record HoldsClaims (b : List ℕ) : Type 0 where
  pub claims : Members
  pub fits : ClaimsFit claims
  pub known : AreKnown claims
  pub text : b ≡ claims_text claims

unfoldable pub AllHoldClaims : List User → Type 0
AllHoldClaims users = AllByRecursion (λ (u : User). HoldsClaims u.claims) users

-- the text, if there is one, satisfies the rule for URLs
abbrev pub is_url_or_none : Option (List ℕ) → Bool
is_url_or_none None = true
is_url_or_none (Some t) = is_some (url_of t)

-- a secret: from 32 to 128 characters of visible ASCII
pub record IsSecret (t : List ℕ) : Type 0 where
  pub name : is_name Visible 0 128 t ≡ true
  pub long : 32 ≤ length t

-- a client satisfies the rules of its row: it seals with its old secret only if it has one; its redirect URIs and its logout
-- URI satisfy the rule for URLs, and their stored parts are those of these URLs
pub record IsClient (k : Client) : Type 0 where
  pub id : is_name ClientId 1 64 k.id ≡ true
  pub secret : is_name Visible 0 128 k.secret ≡ true
  pub long_secret : 32 ≤ length k.secret
  pub old_secret : IfSome k.old_secret IsSecret
  pub seals : (k.seals_old && is_none k.old_secret) ≡ false
  pub redirects : is_within 1 16 (length k.redirects) ≡ true
  pub types : length k.types ≡ 6
  pub urls : are_urls k.redirects ≡ true
  pub kept : k.redirect_urls ≡ urls_of k.redirects
  pub logout : is_url_or_none k.logout ≡ true
  pub logout_kept : k.logout_url ≡ option_and_then url_of k.logout
  pub one_host : (k.pairwise && has_two_hosts k.redirect_urls) ≡ false

-- a text, if there is one, has words of `prompt`; a number, if there is one, is an age in seconds
abbrev pub is_prompt_or_none : Option (List ℕ) → Bool
is_prompt_or_none None = true
is_prompt_or_none (Some t) = is_prompt t

abbrev pub is_age_or_none : Option ℕ → Bool
is_age_or_none None = true
is_age_or_none (Some n) = is_within 0 999999999 n

-- the settings of a party are within their bounds
pub record KeepsPartySettings (s : PartySettings) : Type 0 where
  pub workers : is_within 4 64 s.workers ≡ true

-- a party satisfies the rules of its row: the path of its redirect URI is none that it serves itself, its query has no name of
-- a response parameter, and its scope has the word `openid`
pub record IsParty (p : Party) : Type 0 where
  pub name : is_name PartyName 1 16 p.name ≡ true
  pub listen : is_name Visible 1 64 p.listen ≡ true
  pub redirect : url_of p.redirect ≡ Some p.redirect_url
  pub path : has_text p.redirect_url.path own_paths ≡ false
  pub names : has_answer_name p.redirect_url ≡ false
  pub scope : is_scope p.scope ≡ true
  pub prompt : is_prompt_or_none p.prompt ≡ true
  pub age : is_age_or_none p.max_age ≡ true
  pub settings : KeepsPartySettings p.settings

-- a logout URI is at the server of a party's redirect URI, and its path is not the party's own sign-out path
pub record IsLogoutOf (p : Party) (u : WebUrl) : Type 0 where
  pub server : is_same_server u p.redirect_url ≡ true
  pub path : bytes_eq u.path leave_path ≡ false

-- a party fits its client: its redirect URI is one of the client's, and its path is not that of the client's logout URI; the
-- client has its response type; and the client's logout URI is one for the party
pub record FitsClient (p : Party) (k : Client) : Type 0 where
  pub redirect : has_text p.redirect k.redirects ≡ true
  pub logout : has_path p.redirect_url.path k.logout_url ≡ false
  pub logout_of : IfSome k.logout_url (IsLogoutOf p)
  pub number : ℕ
  pub types : p.types ≡ types_of_number (Some number)
  pub has_type : slice_get k.types number ≡ Some true

-- a subject: ASCII of 1 to 255 bytes (OpenID Connect Core 1.0, 2)
pub record IsSubject (t : List ℕ) : Type 0 where
  pub within : is_within 1 255 (length t) ≡ true
  pub ascii : IsAscii t

-- ---- the provider

-- the issuer is this URL, which has no query (OpenID Connect Discovery 1.0, 3); the registry stores its path without a last
-- slash and whether it is https
pub record IsIssuerUrl (c : Configuration) (url : WebUrl) : Type 0 where
  pub query : url.query ≡ None
  pub prefix : c.prefix ≡ without_slash url.path
  pub secure : c.secure ≡ url.secure

-- the subjects of the users at each client, computed with this salt (OpenID Connect Core 1.0, 8)
pub record AreSubjectsBy (c : Configuration) (salt : List ℕ) : Type 0 where
  pub within : is_within 16 64 (length salt) ≡ true
  pub bytes : IsBytes salt
  pub made : c.subjects ≡ map (subjects_at salt c.users) c.clients

-- the settings of a registry are within their bounds: the names of cookies begin with `__Host-` only if the issuer and the
-- redirect URIs of the parties are https (RFC 6265bis, 4.1.3.2)
pub record KeepsSettings (c : Configuration) : Type 0 where
  pub issuer_https : (c.settings.host_cookies && not c.secure) ≡ false
  pub parties_https : (c.settings.host_cookies && list_any (λ (p : Party). not p.redirect_url.secure) c.parties) ≡ false
  pub workers : is_within 4 64 c.settings.workers ≡ true

-- ---- the registry

-- the sizes of a registry; what is distinct in it: names, secrets (old ones included), redirect URIs, the clients of the
-- parties, and the subjects of the users at one client (OpenID Connect Core 1.0, 8); and the rules of its rows
pub record IsRegistry (c : Configuration) : Type 0 where
  pub users : length c.users ≤ 512
  pub clients : length c.clients ≤ 128
  pub parties : length c.parties ≤ 64
  pub user_ids : AreApart (map (λ (u : User). u.id) c.users)
  pub client_ids : AreApart (map (λ (k : Client). k.id) c.clients)
  pub secrets : AreApart (all_secrets c.clients)
  pub redirects : AreDisjoint (map (λ (k : Client). k.redirects) c.clients)
  pub issuer_apart : AllByRecursion (λ (k : Client). bytes_eq k.id c.provider.issuer ≡ false) c.clients
  pub party_names : AreApart (map (λ (p : Party). p.name) c.parties)
  pub not_op : AllByRecursion (λ (p : Party). bytes_eq p.name (codes "op") ≡ false) c.parties
  pub known : AllByRecursion (λ (p : Party). p.client < length c.clients) c.parties
  pub fitting : AllByRecursion (λ (p : Party). IfSome (client_at c p.client) (FitsClient p)) c.parties
  pub one_party : NumbersAreApart (map (λ (p : Party). p.client) c.parties)
  pub rows : length c.subjects ≡ length c.clients
  pub subjects : AllByRecursion (λ row. (length row ≡ length c.users) × AreApart row) c.subjects
  pub subject_rules : AllByRecursion (AllByRecursion IsSubject) c.subjects
  pub salt : List ℕ
  pub salted : AreSubjectsBy c salt
  pub issuer : is_some (url_of c.provider.issuer) ≡ true
  pub issuer_url : IfSome (url_of c.provider.issuer) (IsIssuerUrl c)
  pub short_issuer : length c.provider.issuer ≤ 200
  pub provider : c.provider ≡ provider_of c.provider.issuer
  pub listen : is_name Visible 1 64 c.listen ≡ true
  pub user_claims : AllHoldClaims c.users
  pub user_rules : AllByRecursion IsUser c.users
  pub client_rules : AllByRecursion IsClient c.clients
  pub party_rules : AllByRecursion IsParty c.parties
  pub settings : KeepsSettings c
