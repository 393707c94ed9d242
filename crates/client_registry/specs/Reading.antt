-- The configuration in a file, or the error that is reported.
use Rattle.std.specs.Prelude.{◌≡◌, ◌≤◌, ◌⊎◌, ℕ, List, [], ◌++◌, length, nat_lt, codes, Option, Some, None, option_map, Result, Ok, Err, if◌then◌else◌}
use Rattle.std.specs.Str.{is_utf8}
use Rattle.toml.specs.Data.{Data, table}
use Rattle.toml.specs.Parse.{parse_document}
use Rattle.configuration_rows.specs.declared.no.RegNo.{RegNo}
use Rattle.configuration_rows.specs.declared.no.RegNo.TheVariants.{TooLong, NotToml, Version}
use Rattle.configuration_rows.specs.Refusals.{least}
use Rattle.configuration_rows.specs.Values.{natural_at}
use Rattle.configuration_rows.specs.declared.version.Version as version
use Rattle.configuration_rows.specs.Versions.{version_of}
use Rattle.configuration_rows.specs.Rows.{rows_refusals}
use Rattle.client_registry.specs.Records.{users_of, clients_of, parties_of}
use Rattle.client_registry.specs.Rules.{records_refusals, subjects_refusals}
use Rattle.client_registry.specs.Configuration.{Configuration, configuration_of, issuer_of, salt_of}

-- the table whose TOML text, in UTF-8, these bytes are
unfoldable pub document_in : List ℕ → Option Data
document_in b = if is_utf8 b then option_map table (parse_document b) else None

-- an error, or the continuation
abbrev pub unless_refused : {R : Type 0} → Option RegNo → Result R RegNo → Result R RegNo
unless_refused None r = r
unless_refused (Some e) r = Err e

unfoldable pub subjects_read : Data → Result Configuration RegNo
subjects_read root = unless_refused (least (subjects_refusals (salt_of root) (users_of root) (clients_of root))) (Ok (configuration_of root))

unfoldable pub records_read : Data → Result Configuration RegNo
records_read root = unless_refused (least (records_refusals (issuer_of root) (users_of root) (clients_of root) (parties_of root))) (subjects_read root)

-- the configuration of a known version, or the error that is reported
unfoldable pub rows_read : Data → Result Configuration RegNo
rows_read root = unless_refused (least (rows_refusals root)) (records_read root)

abbrev pub versioned_read : Option version.Version → Data → Result Configuration RegNo
versioned_read None root = Err Version
versioned_read (Some v) root = rows_read root

abbrev pub document_read : Option Data → Result Configuration RegNo
document_read None = Err NotToml
document_read (Some root) = versioned_read (version_of root) root

-- the configuration in a file, or the error that is reported
abbrev pub registry_read : List ℕ → Result Configuration RegNo
registry_read b = if nat_lt 1048576 (length b) then Err TooLong else document_read (document_in b)

-- ---- the same, stated with all errors at once

-- the bytes are the TOML text of this table, and within the length limit
pub record IsDocument (b : List ℕ) (root : Data) : Type 0 where
  pub short : length b ≤ 1048576
  pub toml : document_in b ≡ Some root

-- the version is 1 or 2
abbrev pub HasVersion : Data → Type 0
HasVersion root = (natural_at (codes "version") root ≡ Some 1) ⊎ (natural_at (codes "version") root ≡ Some 2)

-- all errors of a configuration of a known version
abbrev pub refusals_of : Data → List RegNo
refusals_of root =
    rows_refusals root
    ++ records_refusals (issuer_of root) (users_of root) (clients_of root) (parties_of root)
    ++ subjects_refusals (salt_of root) (users_of root) (clients_of root)

-- the bytes are a configuration of a known version without errors, and c is its contents
pub record IsAccepted (b : List ℕ) (c : Configuration) : Type 0 where
  pub root : Data
  pub document : IsDocument b root
  pub version : HasVersion root
  pub guiltless : refusals_of root ≡ []
  pub says : c ≡ configuration_of root

-- the bytes are TOML text with another version
pub record IsOtherVersion (b : List ℕ) : Type 0 where
  pub root : Data
  pub document : IsDocument b root
  pub other : HasVersion root → ⊥
