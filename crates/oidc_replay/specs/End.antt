-- How a play ends.
use Rattle.std.specs.Prelude.{ℕ, Option, Some, None}
use Rattle.client_registry.specs.Configuration.{Configuration}
use Rattle.sso_places.specs.declared.types.Broken.{Broken}
use Rattle.sso_places.specs.FirstBroken.{first_broken}
use Rattle.sso_places.specs.Site.{own_site}
use Rattle.trace_lines.specs.Trace.{Told}
use Rattle.oidc_replay.specs.declared.replaying.ReplayEnd.{ReplayEnd}
use Rattle.oidc_replay.specs.declared.replaying.ReplayEnd.TheVariants as end
use Rattle.oidc_replay.specs.Play.{Played, play_of}

-- by the first premise that fails
abbrev pub end_by : Option Broken → ReplayEnd
end_by None = end.Met
end_by (Some broken) = end.Broken broken

-- the place at which the play ended early is reported first
abbrev pub ended_by : Option ℕ → Option Broken → ReplayEnd
ended_by (Some place) broken = end.Journal place
ended_by None broken = end_by broken

abbrev pub play_end : Configuration → Played → ReplayEnd
play_end c play = ended_by play.ended (first_broken (own_site c) play.world)

-- how the play of a trace over a registry ends
unfoldable pub end_of : Configuration → Told → ReplayEnd
end_of c told = play_end c (play_of c told)
