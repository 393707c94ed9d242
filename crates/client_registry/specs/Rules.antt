-- Rules about the records of a configuration whose rows satisfy their own rules: names, secrets and redirect URIs that occur
-- twice, sizes, hosts, and subjects.
use Rattle.std.specs.Prelude.{ℕ, ◌==◌, ◌&&◌, ◌||◌, Bool, true, not, List, [], ◌∷◌, ◌++◌, length, nat_lt, codes, map, Option, Some, None, slice_get, unwrap_or}
use Rattle.std.specs.Prelude.{if◌then◌else◌, false}
use Rattle.std.specs.List.{list_any, position_from}
use Rattle.std.specs.Str.{bytes_eq}
use Rattle.sha2.specs.Sha256.{sha256}
use Rattle.sso_base.specs.Base64Url.{b64u}
use Rattle.registered_url.specs.declared.web_url.WebUrl.{WebUrl}
use Rattle.configuration_rows.specs.declared.no.RegNo.{RegNo}
use Rattle.configuration_rows.specs.declared.no.RegNo.TheVariants as no
use Rattle.client_registry.specs.declared.records.User.{User}
use Rattle.client_registry.specs.declared.records.Client.{Client}
use Rattle.client_registry.specs.declared.records.Party.{Party}
use Rattle.configuration_rows.specs.Refusals.{note_if, each}
use Rattle.sso_base.specs.Texts.{has_text}
use Rattle.client_registry.specs.Records.{client_place}
use Rattle.client_registry.specs.Secrets.{has_secret}
use Rattle.client_registry.specs.declared.reading.Rows.{Rows}

-- ---- indices, counted from 0

abbrev pub user_place : List ℕ → List User → Option ℕ
user_place id users = position_from (λ (u : User). bytes_eq u.id id) 0 users

-- the first client with this secret, as its secret or its old one
abbrev pub secret_place : List ℕ → List Client → Option ℕ
secret_place secret clients = position_from (λ (k : Client). has_secret secret k) 0 clients

-- the first client with this redirect URI
abbrev pub redirect_place : List ℕ → List Client → Option ℕ
redirect_place uri clients = position_from (λ (k : Client). has_text uri k.redirects) 0 clients

abbrev pub party_place : List ℕ → List Party → Option ℕ
party_place name parties = position_from (λ (p : Party). bytes_eq p.name name) 0 parties

-- the first party that uses the client with this number
abbrev pub use_place : ℕ → List Party → Option ℕ
use_place client parties = position_from (λ (p : Party). p.client == client) 0 parties

abbrev pub text_place : List ℕ → List (List ℕ) → Option ℕ
text_place t ts = position_from (λ u. bytes_eq u t) 0 ts

-- the value at the index n also occurs earlier; `first` is its first index
abbrev pub is_again : ℕ → Option ℕ → Bool
is_again n None = true
is_again n (Some first) = not (first == n)

-- ---- duplicates

abbrev pub user_twice : List User → ℕ → User → List RegNo
user_twice users n u = note_if (is_again n (user_place u.id users)) (no.Twice u.id)

abbrev pub redirects_twice : List Client → ℕ → List (List ℕ) → List RegNo
redirects_twice clients n [] = []
redirects_twice clients n (uri ∷ uris) = note_if (is_again n (redirect_place uri clients)) (no.Twice uri) ++ redirects_twice clients n uris

-- the old secret is a secret of an earlier client, or the client's own secret
abbrev pub old_twice : List Client → ℕ → Client → Option (List ℕ) → List RegNo
old_twice clients n k None = []
old_twice clients n k (Some old) = note_if (is_again n (secret_place old clients) || bytes_eq k.secret old) (no.Twice k.id)

abbrev pub client_twice : List ℕ → List Client → ℕ → Client → List RegNo
client_twice issuer clients n k =
    note_if (is_again n (client_place k.id clients) || bytes_eq k.id issuer) (no.Twice k.id)
    ++ note_if (is_again n (secret_place k.secret clients)) (no.Twice k.id)
    ++ old_twice clients n k k.old_secret
    ++ redirects_twice clients n k.redirects

-- a party before the index n uses the client with this number
abbrev pub use_twice : List Party → ℕ → ℕ → Option Client → List RegNo
use_twice parties n client None = []
use_twice parties n client (Some k) = note_if (is_again n (use_place client parties)) (no.Twice k.id)

abbrev pub party_twice : List Client → List Party → ℕ → Party → List RegNo
party_twice clients parties n p =
    note_if (is_again n (party_place p.name parties) || bytes_eq p.name (codes "op")) (no.Twice p.name)
    ++ use_twice parties n p.client (slice_get clients p.client)

-- ---- secrets, sizes, hosts and clients

abbrev pub is_short : List ℕ → Bool
is_short secret = nat_lt (length secret) 32

abbrev pub is_short_old : Option (List ℕ) → Bool
is_short_old None = false
is_short_old (Some old) = is_short old

-- a secret of the client, the old one included, has fewer than 32 characters
abbrev pub short_secret : ℕ → Client → List RegNo
short_secret n k = note_if (is_short k.secret || is_short_old k.old_secret) (no.ShortSecret k.id)

-- the 513th user is one too many; the claims of a user have at most 2,048 bytes
abbrev pub user_size : ℕ → User → List RegNo
user_size n u = note_if (n == 512) (no.TooMany (codes "user")) ++ note_if (nat_lt 2048 (length u.claims)) (no.TooMany (codes "claims"))

-- the sector of a client: the host of its redirect URIs (OpenID Connect Core 1.0, 8.1)
abbrev pub sector_of : List WebUrl → List ℕ
sector_of [] = []
sector_of (u ∷ us) = u.host

abbrev pub has_two_hosts : List WebUrl → Bool
has_two_hosts us = list_any (λ (u : WebUrl). not (bytes_eq u.host (sector_of us))) us

abbrev pub mixed_hosts : ℕ → Client → List RegNo
mixed_hosts n k = note_if (k.pairwise && has_two_hosts k.redirect_urls) (no.MixedHosts k.id)

abbrev pub unknown_client : ℕ → ℕ → Party → List RegNo
unknown_client clients n p = note_if (p.client == clients) (no.UnknownClient p.name)

-- the errors of the records by their numbers and, within a number, in the order of the table
unfoldable pub records_refusals : List ℕ → List User → List Client → List Party → List RegNo
records_refusals issuer users clients parties =
    each (user_twice users) users
    ++ each (client_twice issuer clients) clients
    ++ each (party_twice clients parties) parties
    ++ each short_secret clients
    ++ each user_size users
    ++ note_if (nat_lt 128 (length clients)) (no.TooMany (codes "client"))
    ++ note_if (nat_lt 64 (length parties)) (no.TooMany (codes "party"))
    ++ each mixed_hosts clients
    ++ each (unknown_client (length clients)) parties

-- the refusals of the records of all rows
abbrev pub rows_broken : List ℕ → Rows → List RegNo
rows_broken issuer rows = records_refusals issuer rows.users.items rows.clients.items rows.parties.items

-- ---- subjects (OpenID Connect Core 1.0, 8)

-- the subject of a user at a pairwise client: base64url of the SHA-256 of the sector, the user's id and the salt, separated by
-- zero bytes (Core 8.1; the zero bytes are our choice)
unfoldable pub pairwise_subject : List ℕ → List ℕ → List ℕ → List ℕ
pairwise_subject salt sector id = b64u (sha256 (sector ++ 0 ∷ (id ++ 0 ∷ salt)))

-- the subject of a user at a client
abbrev pub subject_of : List ℕ → Client → User → List ℕ
subject_of salt k u = if k.pairwise then pairwise_subject salt (sector_of k.redirect_urls) u.id else u.id

-- the subjects of the users at a client, in order
abbrev pub subjects_at : List ℕ → List User → Client → List (List ℕ)
subjects_at salt users k = map (subject_of salt k) users

abbrev pub id_of : Option User → List ℕ
id_of None = []
id_of (Some u) = u.id

-- the users at two indices have the same subject
abbrev pub clash_at : Client → List User → ℕ → Option ℕ → List RegNo
clash_at k users n first = note_if (is_again n first) (no.SubjectClash k.id (id_of (slice_get users (unwrap_or first n))) (id_of (slice_get users n)))

abbrev pub clashes : Client → List User → List (List ℕ) → List RegNo
clashes k users subjects = each (λ n subject. clash_at k users n (text_place subject subjects)) subjects

-- the errors of clients at which two users have the same subject
unfoldable pub subjects_refusals : List ℕ → List User → List Client → List RegNo
subjects_refusals salt users clients = each (λ n k. clashes k users (subjects_at salt users k)) clients
