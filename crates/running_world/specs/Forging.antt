-- The premises at the next place, by the index of the places before.
use Rattle.std.specs.Prelude.{ℕ, Bool, false, ◌&&◌, not, List, Option, Some, None}
use Rattle.sso_base.specs.Words.{Word, Text}
use Rattle.client_registry.specs.Configuration.{Configuration}
use Rattle.sso_places.specs.Tokens.{is_sealed_for}
use Rattle.world_index.specs.Setting.{set_for_other}
use Rattle.world_index.specs.Writing.{is_written_for}
use Rattle.world_index.specs.declared.setters.Setter.{Setter}
use Rattle.running_world.specs.declared.judging.TokenText.{TokenText}

-- there is a word, and a number other than this one set it
abbrev pub set_if : List (Word × Setter) → ℕ → Option Word → Bool
set_if setters from None = false
set_if setters from (Some w) = set_for_other setters w from

-- the token is sealed under a secret of the client, but was not written for the client
abbrev pub is_forged : Configuration → List (List Text) → TokenText → Bool
is_forged c written t = is_sealed_for c (t.client, t.text) && not (is_written_for written t.text t.client)

abbrev pub forges : Configuration → List (List Text) → Option TokenText → Bool
forges c written None = false
forges c written (Some t) = is_forged c written t
