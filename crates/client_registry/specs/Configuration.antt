-- What a configuration states about the provider, its users, its clients and their relying parties.
use Rattle.std.specs.Prelude.{ℕ, Bool, List, [], map, slice_index_or, codes}
use Rattle.toml.specs.Data.{Data}
use Rattle.client_registry.specs.declared.records.Provider.{Provider}
use Rattle.client_registry.specs.declared.records.User.{User}
use Rattle.client_registry.specs.declared.records.Client.{Client}
use Rattle.client_registry.specs.declared.records.Party.{Party}
use Rattle.client_registry.specs.declared.records.Settings.{Settings}
use Rattle.configuration_rows.specs.Values.{text_or, hex_at, table_at}
use Rattle.configuration_rows.specs.Versions.{version_in}
use Rattle.client_registry.specs.Records.{provider_of, without_slash, url_or_none, lasting_of, full_pages_of, provider_title, settings_of, users_of}
use Rattle.client_registry.specs.Records.{clients_of, parties_of}
use Rattle.client_registry.specs.Rules.{subjects_at}

-- The contents of a registry. `prefix` is the path of the issuer without a last slash, and `secure` is true if the issuer is
-- https. `subjects` has one list for each client, with one subject for each user (OpenID Connect Core 1.0, 8). `lasting` is true
-- if the histories of the provider and its parties last: they are not stored, and their limit is out of reach. `full_pages` is
-- true if users get full pages and not plain ones. `title` is the provider's, on its pages. `settings` are
-- other keys of the second version.
pub record Configuration : Type 0 where
  pub provider : Provider
  pub prefix : List ℕ
  pub listen : List ℕ
  pub secure : Bool
  pub users : List User
  pub clients : List Client
  pub parties : List Party
  pub subjects : List (List (List ℕ))
  pub lasting : Bool
  pub full_pages : Bool
  pub title : List ℕ
  pub settings : Settings

-- the subject of a user at a client, by their places
abbrev pub subject_at : Configuration → ℕ → ℕ → List ℕ
subject_at c client user = slice_index_or (slice_index_or c.subjects client []) user []

-- ---- the values at the paths of a configuration

abbrev pub provider_table : Data → Data
provider_table root = table_at (codes "provider") root

abbrev pub issuer_of : Data → List ℕ
issuer_of root = text_or (codes "issuer") [] (provider_table root)

-- the salt of pairwise subjects
abbrev pub salt_of : Data → List ℕ
salt_of root = hex_at (codes "salt") (provider_table root)

unfoldable pub configuration_of : Data → Configuration
configuration_of root = record {
  provider = provider_of (issuer_of root);
  prefix = without_slash (url_or_none (codes "issuer") (provider_table root)).path;
  listen = text_or (codes "listen") [] (provider_table root);
  secure = (url_or_none (codes "issuer") (provider_table root)).secure;
  users = users_of root;
  clients = clients_of root;
  parties = parties_of root;
  subjects = map (subjects_at (salt_of root) (users_of root)) (clients_of root);
  lasting = lasting_of (version_in root) (provider_table root);
  full_pages = full_pages_of (version_in root) (provider_table root);
  title = provider_title (version_in root) (provider_table root);
  settings = settings_of (version_in root) (provider_table root);
}
