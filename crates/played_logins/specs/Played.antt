-- A trace that is played as a whole login.
use Rattle.std.specs.Prelude.{◌≡◌, ℕ, Bool, ◌∷◌, Ok}
use Rattle.sso_base.specs.Words.{Text}
use Rattle.trace_lines.specs.Trace.{Told, trace_told}
use Rattle.honest_worlds.specs.Whole.{IsWholeLogin}
use Rattle.oidc_replay.specs.declared.replaying.ReplayEnd.TheVariants.{Met}
use Rattle.oidc_replay.specs.End.{end_of}
use Rattle.oidc_replay.specs.Theorem.{world_played}

-- Its bytes can be read for the registry of a whole login at a party of this response type, that requests UserInfo or does not. The
-- world of its play is that login, which has so many places, and the play ends with no premise that fails.
pub record IsPlayedLogin (trace response_type : Text) (asks_for_info : Bool) (places : ℕ) : Type 0 where
  pub login : IsWholeLogin response_type asks_for_info places
  pub told : Told
  pub read : trace_told login.configuration trace ≡ Ok told
  pub world : world_played login.configuration told ≡ login.last ∷ login.earlier
  pub end : end_of login.configuration told ≡ Met
