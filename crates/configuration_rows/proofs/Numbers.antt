-- The numbers of refusals: those of rows are from 4 to 6.
use Rattle.std.proofs.Common.{◌≤◌, ◌+◌, ℕ, Bool, true, false, not, ◌&&◌, List, [], ◌∷◌, ◌++◌, codes, Option, Some, None, is_some, arith}
use Rattle.std.specs.List.{AllByRecursion}
use Rattle.toml.specs.Data.{Data, get, as_array}
use Rattle.configuration_rows.specs.declared.no.RegNo.{RegNo}
use Rattle.configuration_rows.specs.declared.no.RegNo.TheVariants as no
use Rattle.configuration_rows.specs.declared.row.Row.{Row}
use Rattle.configuration_rows.specs.declared.row.Row.TheVariants.{Provider, User, Client, Party}
use Rattle.configuration_rows.specs.declared.kind.Alphabet.TheVariants.{UserId, ClientId, PartyName, Visible}
use Rattle.configuration_rows.specs.declared.kind.TextRule.TheVariants as text
use Rattle.configuration_rows.specs.declared.kind.Kind.{Kind}
use Rattle.configuration_rows.specs.declared.kind.Kind.TheVariants as kind
use Rattle.configuration_rows.specs.declared.kind.Breach.{Breach}
use Rattle.configuration_rows.specs.declared.kind.Breach.TheVariants.{WrongKind, BadUrl}
use Rattle.configuration_rows.specs.declared.version.Version.{Version}
use Rattle.configuration_rows.specs.declared.version.Version.TheVariants as version
use Rattle.configuration_rows.specs.Versions.{version_in}
use Rattle.configuration_rows.specs.Refusals.{number, note_if, each_from}
use Rattle.configuration_rows.specs.Paths.{path_text}
use Rattle.configuration_rows.specs.Values.{text_at, text_or, url_at, rows_at, table_at}
use Rattle.configuration_rows.specs.Kinds.{breach}
use Rattle.configuration_rows.specs.Rows as keys
use Rattle.configuration_rows.specs.Rows.{rows_refusals}
use Rattle.configuration_rows.proofs.Phases.{HaveAtMost, HaveAtLeast}

-- each number is within these bounds
abbrev pub HaveNumbers : ℕ → ℕ → List RegNo → Type 0
HaveNumbers low high es = AllByRecursion (λ e. (low ≤ number e) × (number e ≤ high)) es

module _ (low high : ℕ) where
  pub of_two : (es fs : List RegNo) → HaveNumbers low high es → HaveNumbers low high fs → HaveNumbers low high (es ++ fs)
  of_two [] fs h g = g
  of_two (e ∷ es) fs h g = (h.0, of_two es fs h.1 g)

  pub of_note : (b : Bool) (e : RegNo) → low ≤ number e → number e ≤ high → HaveNumbers low high (note_if b e)
  of_note true e l h = ((l, h), tt)
  of_note false e l h = tt

  pub of_each : {A : Type 0} (f : ℕ → A → List RegNo) (n : ℕ) (xs : List A) → ((i : ℕ) (x : A) → HaveNumbers low high (f i x)) → HaveNumbers low high (each_from f n xs)
  of_each f n [] h = tt
  of_each f n (x ∷ xs) h = of_two (f n x) (each_from f (n + 1) xs) (h n x) (of_each f (n + 1) xs h)

  pub at_most : (n : ℕ) (es : List RegNo) → high ≤ n → HaveNumbers low high es → HaveAtMost n es
  at_most n [] le h = tt
  at_most n (e ∷ es) le h = (omega (arith, le, h.0.1), at_most n es le h.1)

  pub at_least : (n : ℕ) (es : List RegNo) → n ≤ low → HaveNumbers low high es → HaveAtLeast n es
  at_least n [] le h = tt
  at_least n (e ∷ es) le h = (omega (arith, le, h.0.0), at_least n es le h.1)

pub wider : (low high l h : ℕ) (es : List RegNo) → l ≤ low → high ≤ h → HaveNumbers low high es → HaveNumbers l h es
wider low high l h [] le ge all = tt
wider low high l h (e ∷ es) le ge all = ((omega (arith, le, all.0.0), omega (arith, ge, all.0.1)), wider low high l h es le ge all.1)

-- ---- keys

abbrev OfRow : List RegNo → Type 0
OfRow es = HaveNumbers 4 6 es

both : (es fs : List RegNo) → OfRow es → OfRow fs → OfRow (es ++ fs)
both es fs h g = of_two 4 6 es fs h g

note : (b : Bool) (e : RegNo) → 4 ≤ number e → number e ≤ 6 → OfRow (note_if b e)
note b e l h = of_note 4 6 b e l h

each : (f : ℕ → Data → List RegNo) (rows : List Data) → ((i : ℕ) (d : Data) → OfRow (f i d)) → OfRow (each_from f 0 rows)
each f rows h = of_each 4 6 f 0 rows h

of_breached : (path : List ℕ) (o : Option Breach) → OfRow (keys.breached path o)
of_breached path None = tt
of_breached path (Some WrongKind) = ((omega arith, omega arith), tt)
of_breached path (Some BadUrl) = ((omega arith, omega arith), tt)

of_required_value : (path : List ℕ) (k : Kind) (o : Option Data) → OfRow (keys.required_value path k o)
of_required_value path k None = ((omega arith, omega arith), tt)
of_required_value path k (Some d) = of_breached path (breach k d)

of_optional_value : (path : List ℕ) (k : Kind) (o : Option Data) → OfRow (keys.optional_value path k o)
of_optional_value path k None = tt
of_optional_value path k (Some d) = of_breached path (breach k d)

of_required : (r : Row) (d : Data) (key : List ℕ) (k : Kind) → OfRow (keys.required r d key k)
of_required r d key k = of_required_value (path_text r key) k (get key d)

of_optional : (r : Row) (d : Data) (key : List ℕ) (k : Kind) → OfRow (keys.optional r d key k)
of_optional r d key k = of_optional_value (path_text r key) k (get key d)

of_array_value : (key : List ℕ) (o : Option Data) → OfRow (keys.array_value key o)
of_array_value key None = tt
of_array_value key (Some d) = note (not (is_some (as_array d))) (no.WrongKind key) (omega arith) (omega arith)

-- ---- rows

of_history_key : (v : Version) (d : Data) → OfRow (keys.history_key v d)
of_history_key version.First d = tt
of_history_key version.Second d = of_optional Provider d (codes "history") (kind.Text text.History)

of_page_keys : (v : Version) (d : Data) → OfRow (keys.page_keys v d)
of_page_keys version.First d = tt
of_page_keys version.Second d = both _ _ (of_optional Provider d (codes "pages") (kind.Text text.Pages)) (of_optional Provider d (codes "title") (kind.Text text.Title))

of_workers : (r : Row) (d : Data) → OfRow (keys.workers_key r d)
of_workers r d = of_optional r d (codes "workers") (kind.Number 4 64)

of_issuer_rule : (host : Bool) (d : Data) → OfRow (keys.issuer_rule host d)
of_issuer_rule host d = note (host && keys.is_http (url_at (codes "issuer") d)) (no.WrongKind (path_text Provider (codes "cookies"))) (omega arith) (omega arith)

of_https_rule : (host : Bool) (r : Row) (d : Data) → OfRow (keys.https_rule host r d)
of_https_rule host r d = note (host && keys.is_http (url_at (codes "redirect_uri") d)) (no.BadUrl (path_text r (codes "redirect_uri"))) (omega arith) (omega arith)

of_server_keys : (v : Version) (d : Data) → OfRow (keys.server_keys v d)
of_server_keys version.First d = tt
of_server_keys version.Second d =
    both _ _
    (both _ _ (of_optional Provider d (codes "cookies") (kind.Text text.Cookies)) (of_issuer_rule (keys.host_cookies version.Second d) d))
    (of_workers Provider d)

of_party_keys : (v : Version) (host : Bool) (r : Row) (d : Data) → OfRow (keys.party_keys v host r d)
of_party_keys version.First host r d = tt
of_party_keys version.Second host r d = both _ _ (of_https_rule host r d) (of_workers r d)

of_provider : (v : Version) (d : Data) → OfRow (keys.provider_row v d)
of_provider v d =
    both _ _
    (both _ _
    (both _ _
    (both _ _
    (both _ _
    (of_required Provider d (codes "issuer") kind.Issuer)
    (of_required Provider d (codes "listen") (kind.Text (text.Name Visible 1 64))))
    (of_required Provider d (codes "salt") (kind.Text (text.Hex 16 64))))
    (of_history_key v d))
    (of_page_keys v d))
    (of_server_keys v d)

of_user : (i : ℕ) (d : Data) → OfRow (keys.user_row i d)
of_user i d =
    both _ _
    (both _ _
    (both _ _
    (both _ _
    (of_required (User i) d (codes "id") (kind.Text (text.Name UserId 1 64)))
    (of_required (User i) d (codes "salt") (kind.Text (text.Hex 1 64))))
    (of_required (User i) d (codes "rounds") (kind.Number 1 1000000)))
    (of_required (User i) d (codes "proof") (kind.Text (text.Hex 32 32))))
    (of_optional (User i) d (codes "claims") kind.Claims)

of_old_secret : (b : Bool) (r : Row) (d : Data) → OfRow (keys.old_secret_rule b r d)
of_old_secret true r d = of_required r d (codes "old_secret") (kind.Text (text.Name Visible 0 128))
of_old_secret false r d = of_optional r d (codes "old_secret") (kind.Text (text.Name Visible 0 128))

of_old_secret_keys : (v : Version) (r : Row) (d : Data) → OfRow (keys.old_secret_keys v r d)
of_old_secret_keys version.First r d = tt
of_old_secret_keys version.Second r d = both _ _ (of_old_secret (keys.seals_old d) r d) (of_optional r d (codes "seals") (kind.Text text.Seals))

of_client_names : (v : Version) (r : Row) (d : Data) → OfRow (keys.client_names v r d)
of_client_names v r d =
    both _ _
    (both _ _
    (both _ _
    (both _ _
    (of_required r d (codes "id") (kind.Text (text.Name ClientId 1 64)))
    (of_required r d (codes "secret") (kind.Text (text.Name Visible 0 128))))
    (of_old_secret_keys v r d))
    (of_required r d (codes "redirect_uris") kind.Urls))
    (of_optional r d (codes "response_types") kind.ResponseTypes)

of_logout_rule : (parties : List Data) (r : Row) (d : Data) → OfRow (keys.logout_rule parties r d)
of_logout_rule parties r d = note (keys.misplaced parties (text_at (codes "id") d) (url_at (codes "logout_uri") d)) (no.WrongKind (path_text r (codes "logout_uri"))) (omega arith) (omega arith)

of_client_settings : (parties : List Data) (r : Row) (d : Data) → OfRow (keys.client_settings parties r d)
of_client_settings parties r d =
    both _ _
    (both _ _
    (both _ _
    (both _ _
    (of_optional r d (codes "subject") (kind.Text text.Subject))
    (of_optional r d (codes "consent") (kind.Text text.Consent)))
    (of_optional r d (codes "logout_uri") kind.Url))
    (of_logout_rule parties r d))
    (of_optional r d (codes "logout_session") kind.Flag)

of_title_key : (v : Version) (r : Row) (d : Data) → OfRow (keys.title_key v r d)
of_title_key version.First r d = tt
of_title_key version.Second r d = of_optional r d (codes "title") (kind.Text text.Title)

of_client : (v : Version) (parties : List Data) (i : ℕ) (d : Data) → OfRow (keys.client_row v parties i d)
of_client v parties i d = both _ _ (both _ _ (of_client_names v (Client i) d) (of_client_settings parties (Client i) d)) (of_title_key v (Client i) d)

of_redirect_rule : (clients : List Data) (r : Row) (d : Data) → OfRow (keys.redirect_rule clients r d)
of_redirect_rule clients r d =
    note (keys.misdirects (keys.client_of clients d) (text_at (codes "redirect_uri") d) (url_at (codes "redirect_uri") d)) (no.BadUrl (path_text r (codes "redirect_uri"))) (omega arith) (omega arith)

of_type_rule : (clients : List Data) (r : Row) (d : Data) → OfRow (keys.type_rule clients r d)
of_type_rule clients r d = note (keys.lacks_type (keys.client_of clients d) (text_or (codes "response_type") (codes "code") d)) (no.WrongKind (path_text r (codes "response_type"))) (omega arith) (omega arith)

of_party_names : (clients : List Data) (r : Row) (d : Data) → OfRow (keys.party_names clients r d)
of_party_names clients r d =
    both _ _
    (both _ _
    (both _ _
    (both _ _
    (of_required r d (codes "name") (kind.Text (text.Name PartyName 1 16)))
    (of_required r d (codes "client") (kind.Text text.Any)))
    (of_required r d (codes "redirect_uri") kind.Url))
    (of_redirect_rule clients r d))
    (of_required r d (codes "listen") (kind.Text (text.Name Visible 1 64)))

of_party_request : (clients : List Data) (r : Row) (d : Data) → OfRow (keys.party_request clients r d)
of_party_request clients r d =
    both _ _
    (both _ _
    (both _ _
    (both _ _
    (of_optional r d (codes "response_type") (kind.Text text.ResponseType))
    (of_type_rule clients r d))
    (of_optional r d (codes "scope") (kind.Text text.Scope)))
    (of_optional r d (codes "prompt") (kind.Text text.Prompt)))
    (of_optional r d (codes "max_age") (kind.Number 0 999999999))

of_party_settings : (r : Row) (d : Data) → OfRow (keys.party_settings r d)
of_party_settings r d = both _ _ (of_optional r d (codes "userinfo") kind.Flag) (of_optional r d (codes "signed") kind.Flag)

of_party : (v : Version) (host : Bool) (clients : List Data) (i : ℕ) (d : Data) → OfRow (keys.party_row v host clients i d)
of_party v host clients i d =
    both _ _
    (both _ _ (both _ _ (of_party_names clients (Party i) d) (of_party_request clients (Party i) d)) (of_party_settings (Party i) d))
    (of_party_keys v host (Party i) d)

of_users : (root : Data) → OfRow (keys.users_rows root)
of_users root = both _ _ (of_array_value (codes "user") (get (codes "user") root)) (each keys.user_row (rows_at (codes "user") root) of_user)

of_clients : (root : Data) → OfRow (keys.clients_rows root)
of_clients root = both _ _ (of_array_value (codes "client") (get (codes "client") root)) (each (keys.client_row (version_in root) (rows_at (codes "party") root)) (rows_at (codes "client") root) (of_client (version_in root) (rows_at (codes "party") root)))

of_parties : (root : Data) → OfRow (keys.parties_rows root)
of_parties root =
    both _ _ (of_array_value (codes "party") (get (codes "party") root))
    (each (keys.party_row (version_in root) (keys.host_cookies_in root) (rows_at (codes "client") root)) (rows_at (codes "party") root)
    (of_party (version_in root) (keys.host_cookies_in root) (rows_at (codes "client") root)))

pub of_rows : (root : Data) → HaveNumbers 4 6 (rows_refusals root)
unfolding rows_refusals
of_rows root = both _ _ (both _ _ (both _ _ (of_provider (version_in root) (table_at (codes "provider") root)) (of_users root)) (of_clients root)) (of_parties root)
