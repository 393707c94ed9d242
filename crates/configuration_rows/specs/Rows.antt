-- The configuration: its keys, each with its rule, row by row, in the order of its table. The second version has nine more keys:
-- three for a client, five for the provider and one for a party.
use Rattle.std.specs.Prelude.{ℕ, ◌==◌, Bool, true, false, not, ◌&&◌, ◌||◌, List, [], ◌∷◌, ◌++◌, codes, Option, Some, None, is_some, if◌then◌else◌}
use Rattle.std.specs.List.{list_any}
use Rattle.std.specs.Str.{bytes_eq}
use Rattle.toml.specs.Data.{Data, get, as_array}
use Rattle.registered_url.specs.declared.web_url.WebUrl.{WebUrl}
use Rattle.registered_url.specs.Rule.{is_same_server}
use Rattle.registered_url.specs.Query.{query_names}
use Rattle.configuration_rows.specs.declared.no.RegNo.{RegNo}
use Rattle.configuration_rows.specs.declared.no.RegNo.TheVariants as no
use Rattle.configuration_rows.specs.declared.row.Row.{Row}
use Rattle.configuration_rows.specs.declared.row.Row.TheVariants.{Provider, User, Client, Party}
use Rattle.configuration_rows.specs.declared.kind.Alphabet.TheVariants.{UserId, ClientId, PartyName, Visible}
use Rattle.configuration_rows.specs.declared.kind.TextRule.TheVariants.{Any, Name, Hex, ResponseType, Subject, Consent, Seals, History, Scope, Prompt}
use Rattle.configuration_rows.specs.declared.kind.TextRule.TheVariants.{Pages, Title, Cookies}
use Rattle.configuration_rows.specs.declared.kind.Kind.{Kind}
use Rattle.configuration_rows.specs.declared.kind.Kind.TheVariants.{Text, Number, Flag, Issuer, Url, Urls, ResponseTypes, Claims}
use Rattle.configuration_rows.specs.declared.kind.Breach.{Breach}
use Rattle.configuration_rows.specs.declared.kind.Breach.TheVariants.{WrongKind, BadUrl}
use Rattle.configuration_rows.specs.declared.version.Version.{Version}
use Rattle.configuration_rows.specs.declared.version.Version.TheVariants as version
use Rattle.configuration_rows.specs.Refusals.{note_if, each}
use Rattle.configuration_rows.specs.Paths.{path_text}
use Rattle.configuration_rows.specs.Values.{text_at, text_or, texts_at, url_at, rows_at, table_at}
use Rattle.configuration_rows.specs.Kinds.{breach, passes}
use Rattle.configuration_rows.specs.Versions.{version_in}
use Rattle.sso_base.specs.Texts.{has_text}
use Rattle.oidc_words.specs.Paths.{home_path, begin_path, leave_path}
use Rattle.oidc_words.specs.Types.{code_word, type_number}

-- ---- keys

abbrev pub breached : List ℕ → Option Breach → List RegNo
breached path None = []
breached path (Some WrongKind) = no.WrongKind path ∷ []
breached path (Some BadUrl) = no.BadUrl path ∷ []

abbrev pub required_value : List ℕ → Kind → Option Data → List RegNo
required_value path kind None = no.Missing path ∷ []
required_value path kind (Some d) = breached path (breach kind d)

abbrev pub optional_value : List ℕ → Kind → Option Data → List RegNo
optional_value path kind None = []
optional_value path kind (Some d) = breached path (breach kind d)

-- the errors of a row at a required key
abbrev pub required : Row → Data → List ℕ → Kind → List RegNo
required row d key kind = required_value (path_text row key) kind (get key d)

-- the same for a key that is optional or has a default
abbrev pub optional : Row → Data → List ℕ → Kind → List RegNo
optional row d key kind = optional_value (path_text row key) kind (get key d)

-- ---- rules about several rows

-- the party of this row uses the client with this id
abbrev pub uses : List ℕ → Data → Bool
uses id party = passes (bytes_eq id) (text_at (codes "client") party)

abbrev pub is_elsewhere : WebUrl → Option WebUrl → Bool
is_elsewhere u None = false
is_elsewhere u (Some v) = not (is_same_server u v)

-- the party uses the client, and the client's logout URI does not fit it: the URI has the path of the party's own sign-out, or
-- a scheme, host or port other than the party's redirect URI
abbrev pub is_apart : List ℕ → WebUrl → Data → Bool
is_apart id u party = uses id party && (bytes_eq u.path leave_path || is_elsewhere u (url_at (codes "redirect_uri") party))

abbrev pub misplaced : List Data → Option (List ℕ) → Option WebUrl → Bool
misplaced parties None u = false
misplaced parties (Some id) None = false
misplaced parties (Some id) (Some u) = list_any (is_apart id u) parties

abbrev pub logout_rule : List Data → Row → Data → List RegNo
logout_rule parties row client =
    note_if (misplaced parties (text_at (codes "id") client) (url_at (codes "logout_uri") client))
    (no.WrongKind (path_text row (codes "logout_uri")))

-- the first client with this id
abbrev pub client_with : List ℕ → List Data → Option Data
client_with id [] = None
client_with id (k ∷ ks) = if passes (bytes_eq id) (text_at (codes "id") k) then Some k else client_with id ks

abbrev pub client_named : List Data → Option (List ℕ) → Option Data
client_named clients None = None
client_named clients (Some id) = client_with id clients

-- the client of a party, if it is known
abbrev pub client_of : List Data → Data → Option Data
client_of clients party = client_named clients (text_at (codes "client") party)

-- the parameters of a response to a redirect URI (OpenID Connect Core 1.0, 3.1.2.5, 3.1.2.6 and 3.2.2.5)
abbrev pub answer_names : List (List ℕ)
answer_names = codes "state" ∷ codes "error" ∷ codes "code" ∷ codes "access_token" ∷ codes "id_token" ∷ []

-- the paths that a party serves itself
abbrev pub own_paths : List (List ℕ)
own_paths = home_path ∷ begin_path ∷ leave_path ∷ []

abbrev pub has_answer_name : WebUrl → Bool
has_answer_name u = list_any (λ name. has_text name answer_names) (query_names u)

abbrev pub has_path : List ℕ → Option WebUrl → Bool
has_path path u = passes (λ (v : WebUrl). bytes_eq path v.path) u

-- the redirect URI t is not one of the client's, or has the path of its logout URI
abbrev pub is_not_of : Option Data → List ℕ → WebUrl → Bool
is_not_of None t u = false
is_not_of (Some client) t u = not (has_text t (texts_at (codes "redirect_uris") client)) || has_path u.path (url_at (codes "logout_uri") client)

abbrev pub misdirects : Option Data → Option (List ℕ) → Option WebUrl → Bool
misdirects client None u = false
misdirects client (Some t) None = false
misdirects client (Some t) (Some u) = has_answer_name u || (has_text u.path own_paths || is_not_of client t u)

abbrev pub party_misdirects : List Data → Data → Bool
party_misdirects clients party =
    misdirects (client_of clients party) (text_at (codes "redirect_uri") party) (url_at (codes "redirect_uri") party)

abbrev pub redirect_rule : List Data → Row → Data → List RegNo
redirect_rule clients row party = note_if (party_misdirects clients party) (no.BadUrl (path_text row (codes "redirect_uri")))

-- the response types of a client; `code` if it states none
abbrev pub response_texts : Data → List (List ℕ)
response_texts client = if is_some (get (codes "response_types") client) then texts_at (codes "response_types") client else code_word ∷ []

abbrev pub is_number : ℕ → Option ℕ → Bool
is_number n m = passes (λ k. n == k) m

-- one of the texts is the response type of this number
abbrev pub has_type : ℕ → List (List ℕ) → Bool
has_type n ts = list_any (λ t. is_number n (type_number t)) ts

abbrev pub lacks_number : List (List ℕ) → Option ℕ → Bool
lacks_number ts None = false
lacks_number ts (Some n) = not (has_type n ts)

unfoldable pub lacks_type : Option Data → List ℕ → Bool
lacks_type None t = false
lacks_type (Some client) t = lacks_number (response_texts client) (type_number t)

abbrev pub party_lacks_type : List Data → Data → Bool
party_lacks_type clients party = lacks_type (client_of clients party) (text_or (codes "response_type") code_word party)

abbrev pub type_rule : List Data → Row → Data → List RegNo
type_rule clients row party = note_if (party_lacks_type clients party) (no.WrongKind (path_text row (codes "response_type")))

-- ---- the rows of the table

-- whether the histories are stored, or last: a key of the second version
abbrev pub history_key : Version → Data → List RegNo
history_key version.First d = []
history_key version.Second d = optional Provider d (codes "history") (Text History)

-- which pages users get, and the title on them: keys of the second version
abbrev pub page_keys : Version → Data → List RegNo
page_keys version.First d = []
page_keys version.Second d = optional Provider d (codes "pages") (Text Pages) ++ optional Provider d (codes "title") (Text Title)

-- the names of cookies begin with `__Host-` (RFC 6265bis, 4.1.3.2), in the second version
abbrev pub host_cookies : Version → Data → Bool
host_cookies version.First d = false
host_cookies version.Second d = bytes_eq (text_or (codes "cookies") [] d) (codes "host")

-- a user agent ignores cookies with such names at a URL that is not https (RFC 6265bis, 4.1.3.2)
abbrev pub is_http : Option WebUrl → Bool
is_http u = passes (λ (v : WebUrl). not v.secure) u

-- the issuer is https if names begin with `__Host-`
abbrev pub issuer_rule : Bool → Data → List RegNo
issuer_rule host d = note_if (host && is_http (url_at (codes "issuer") d)) (no.WrongKind (path_text Provider (codes "cookies")))

-- the redirect URI of a party is https if names begin with `__Host-`
abbrev pub https_rule : Bool → Row → Data → List RegNo
https_rule host row d = note_if (host && is_http (url_at (codes "redirect_uri") d)) (no.BadUrl (path_text row (codes "redirect_uri")))

-- how many workers serve requests at the same time
abbrev pub workers_key : Row → Data → List RegNo
workers_key row d = optional row d (codes "workers") (Number 4 64)

-- the names of cookies, and the workers of the provider: keys of the second version
abbrev pub server_keys : Version → Data → List RegNo
server_keys version.First d = []
server_keys version.Second d =
    optional Provider d (codes "cookies") (Text Cookies) ++ issuer_rule (host_cookies version.Second d) d ++ workers_key Provider d

abbrev pub provider_row : Version → Data → List RegNo
provider_row v d =
    required Provider d (codes "issuer") Issuer
    ++ required Provider d (codes "listen") (Text (Name Visible 1 64))
    ++ required Provider d (codes "salt") (Text (Hex 16 64))
    ++ history_key v d
    ++ page_keys v d
    ++ server_keys v d

abbrev pub user_row : ℕ → Data → List RegNo
user_row i d =
    required (User i) d (codes "id") (Text (Name UserId 1 64))
    ++ required (User i) d (codes "salt") (Text (Hex 1 64))
    ++ required (User i) d (codes "rounds") (Number 1 1000000)
    ++ required (User i) d (codes "proof") (Text (Hex 32 32))
    ++ optional (User i) d (codes "claims") Claims

-- the client seals with its old secret
abbrev pub seals_old : Data → Bool
seals_old d = bytes_eq (text_or (codes "seals") [] d) (codes "old")

-- a client that seals with its old secret needs one; to any other it is optional
abbrev pub old_secret_rule : Bool → Row → Data → List RegNo
old_secret_rule true row d = required row d (codes "old_secret") (Text (Name Visible 0 128))
old_secret_rule false row d = optional row d (codes "old_secret") (Text (Name Visible 0 128))

-- the secrets of a client that only the second version has
abbrev pub old_secret_keys : Version → Row → Data → List RegNo
old_secret_keys version.First row d = []
old_secret_keys version.Second row d = old_secret_rule (seals_old d) row d ++ optional row d (codes "seals") (Text Seals)

abbrev pub client_names : Version → Row → Data → List RegNo
client_names v row d =
    required row d (codes "id") (Text (Name ClientId 1 64))
    ++ required row d (codes "secret") (Text (Name Visible 0 128))
    ++ old_secret_keys v row d
    ++ required row d (codes "redirect_uris") Urls
    ++ optional row d (codes "response_types") ResponseTypes

abbrev pub client_settings : List Data → Row → Data → List RegNo
client_settings parties row d =
    optional row d (codes "subject") (Text Subject)
    ++ optional row d (codes "consent") (Text Consent)
    ++ optional row d (codes "logout_uri") Url
    ++ logout_rule parties row d
    ++ optional row d (codes "logout_session") Flag

-- the title of a client on pages: a key of the second version
abbrev pub title_key : Version → Row → Data → List RegNo
title_key version.First row d = []
title_key version.Second row d = optional row d (codes "title") (Text Title)

abbrev pub client_row : Version → List Data → ℕ → Data → List RegNo
client_row v parties i d = client_names v (Client i) d ++ client_settings parties (Client i) d ++ title_key v (Client i) d

abbrev pub party_names : List Data → Row → Data → List RegNo
party_names clients row d =
    required row d (codes "name") (Text (Name PartyName 1 16))
    ++ required row d (codes "client") (Text Any)
    ++ required row d (codes "redirect_uri") Url
    ++ redirect_rule clients row d
    ++ required row d (codes "listen") (Text (Name Visible 1 64))

abbrev pub party_request : List Data → Row → Data → List RegNo
party_request clients row d =
    optional row d (codes "response_type") (Text ResponseType)
    ++ type_rule clients row d
    ++ optional row d (codes "scope") (Text Scope)
    ++ optional row d (codes "prompt") (Text Prompt)
    ++ optional row d (codes "max_age") (Number 0 999999999)

abbrev pub party_settings : Row → Data → List RegNo
party_settings row d =
    optional row d (codes "userinfo") Flag
    ++ optional row d (codes "signed") Flag

-- what a party's row has in the second version; `host` is true if the names of cookies begin with `__Host-`
abbrev pub party_keys : Version → Bool → Row → Data → List RegNo
party_keys version.First host row d = []
party_keys version.Second host row d = https_rule host row d ++ workers_key row d

abbrev pub party_row : Version → Bool → List Data → ℕ → Data → List RegNo
party_row v host clients i d =
    party_names clients (Party i) d ++ party_request clients (Party i) d ++ party_settings (Party i) d ++ party_keys v host (Party i) d

abbrev pub array_value : List ℕ → Option Data → List RegNo
array_value key None = []
array_value key (Some d) = note_if (not (is_some (as_array d))) (no.WrongKind key)

-- rows are in an array, if there are any
abbrev pub array_rule : List ℕ → Data → List RegNo
array_rule key root = array_value key (get key root)

abbrev pub provider_rows : Data → List RegNo
provider_rows root = provider_row (version_in root) (table_at (codes "provider") root)

abbrev pub users_rows : Data → List RegNo
users_rows root = array_rule (codes "user") root ++ each user_row (rows_at (codes "user") root)

abbrev pub clients_rows : Data → List RegNo
clients_rows root = array_rule (codes "client") root ++ each (client_row (version_in root) (rows_at (codes "party") root)) (rows_at (codes "client") root)

-- the names of the cookies of a configuration begin with `__Host-`
abbrev pub host_cookies_in : Data → Bool
host_cookies_in root = host_cookies (version_in root) (table_at (codes "provider") root)

abbrev pub parties_rows : Data → List RegNo
parties_rows root =
    array_rule (codes "party") root
    ++ each (party_row (version_in root) (host_cookies_in root) (rows_at (codes "client") root)) (rows_at (codes "party") root)

-- the errors of the rows of a configuration, in order: missing keys, values of another kind or that violate their rules, and
-- URLs that violate theirs
unfoldable pub rows_refusals : Data → List RegNo
rows_refusals root =
    provider_rows root
    ++ users_rows root
    ++ clients_rows root
    ++ parties_rows root
