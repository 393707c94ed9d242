-- Issued codes and access tokens, each under its half hash (OpenID Connect Core 1.0, 3.1.3.6 and 3.3.2.11).
use Rattle.std.specs.Prelude.{ℕ, List, Option, Some, None, if◌then◌else◌}
use Rattle.std.specs.Map.{lookup}
use Rattle.std.specs.Str.{bytes_eq}
use Rattle.sso_base.specs.Words.{Word, Text}
use Rattle.sso_places.specs.Premises.{half_digest}
use Rattle.world_index.specs.declared.halves.Issued.{Issued}

-- the first note of a half hash
abbrev pub issued_of : List (Text × Issued) → Text → Option Issued
issued_of halves half = lookup (λ h. bytes_eq half h) halves

-- a word that is issued at a place, if this is its half hash
abbrev pub issued_as : Text → Word → ℕ → Option Issued
issued_as half w place = if bytes_eq (half_digest w) half then Some (record { word = w; place = place }) else None

-- the place, if the word there is a different one
abbrev pub other_place : Word → Option Issued → Option ℕ
other_place w None = None
other_place w (Some issued) = if bytes_eq issued.word w then None else Some issued.place
