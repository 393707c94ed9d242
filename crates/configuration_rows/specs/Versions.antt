-- The versions of a configuration.
use Rattle.std.specs.Prelude.{ℕ, ◌==◌, codes, Option, Some, None, unwrap_or, if◌then◌else◌}
use Rattle.toml.specs.Data.{Data}
use Rattle.configuration_rows.specs.declared.version.Version.{Version}
use Rattle.configuration_rows.specs.declared.version.Version.TheVariants.{First, Second}
use Rattle.configuration_rows.specs.Values.{natural_at}

-- the version with a number
abbrev pub version_numbered : Option ℕ → Option Version
version_numbered None = None
version_numbered (Some n) = if n == 1 then Some First else if n == 2 then Some Second else None

-- the version of a configuration, if it is 1 or 2
abbrev pub version_of : Data → Option Version
version_of root = version_numbered (natural_at (codes "version") root)

-- the version whose keys are read; a configuration of any other version is rejected
unfoldable pub version_in : Data → Version
version_in root = unwrap_or (version_of root) First
