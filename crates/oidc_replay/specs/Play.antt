-- The play of a trace: the world that its lines make, with the browsers' cookies. The provider is the registry's, and each
-- relying party of the registry trusts it.
use Rattle.std.specs.Prelude.{◌≡◌, ℕ, suc, ◌+◌, Bool, nat_le, List, [], ◌∷◌, length, Option, Some, None, is_some, if◌then◌else◌}
use Rattle.sso_base.specs.Journal.{most_of}
use Rattle.client_registry.specs.Configuration.{Configuration}
use Rattle.sso_places.specs.Site.{own_site}
use Rattle.sso_places.specs.World.{Place, Nothing, World}
use Rattle.cookie_jars.specs.declared.jar_note.JarNote.{JarNote}
use Rattle.cookie_jars.specs.Jars.{jars_after, jars_stolen}
use Rattle.running_world.specs.Running.{Running, world_of}
use Rattle.running_world.specs.Stepping.{stepped, role_weight, asked_weight}
use Rattle.trace_lines.specs.declared.line.Line.{Line}
use Rattle.trace_lines.specs.declared.line.Line.TheVariants.{At, Steal, Show}
use Rattle.trace_lines.specs.Trace.{Told}
use Rattle.web_requests.specs.declared.sent.Sent.{Sent}
use Rattle.oidc_replay.specs.Words.{words_after}
use Rattle.oidc_replay.specs.Sending.{line_sent}

-- the part that was played: the places, the changes of the browsers' jars, the moment, and the place at which the play ended
-- early, if it did
pub record Played : Type 0 where
  pub world : World
  pub jars : List JarNote
  pub at : ℕ
  pub ended : Option ℕ

abbrev pub nothing_played : Played
nothing_played = record { world = []; jars = []; at = 0; ended = None }

-- one more place
abbrev pub with_place : Played → Place → Played
with_place play x = record play { world = x ∷ play.world; jars = jars_after x play.jars }

-- the history of the recipient has room for the request
abbrev pub has_room : Configuration → World → Sent → Bool
has_room c world sent = nat_le (role_weight sent.to world + asked_weight c sent.to sent.ask) (most_of c.lasting)

-- a role receives a request; if its history has no room for it, the play ends before the place
abbrev pub asked : Configuration → List ℕ → Played → Sent → Played
asked c seed play sent =
    if has_room c play.world sent
    then with_place play (stepped (own_site c) sent.from sent.to play.at (words_after seed (length play.world)) sent.ask play.world)
    else record play { ended = Some (suc (length play.world)) }

-- the place of a line that sends this request, or none
abbrev pub asked_if : Configuration → List ℕ → Played → Option Sent → Played
asked_if c seed play None = with_place play Nothing
asked_if c seed play (Some sent) = asked c seed play sent

-- the place of a line that may send a request
abbrev pub line_asked : Configuration → List ℕ → Played → Line → Played
line_asked c seed play line = asked_if c seed play (line_sent c play.world play.jars line)

abbrev pub line_played : Configuration → List ℕ → Played → Line → Played
line_played c seed play (At seconds) = record play { at = seconds }
line_played c seed play (Steal thief owner) = record play { jars = jars_stolen thief owner play.jars }
line_played c seed play (Show place) = play
line_played c seed play line = line_asked c seed play line

-- nothing is played after the end
abbrev pub play_on : Configuration → List ℕ → Played → Line → Played
play_on c seed play line = if is_some play.ended then play else line_played c seed play line

-- the play of these lines, given the newest first
abbrev pub play_lines : Configuration → List ℕ → List Line → Played
play_lines c seed [] = nothing_played
play_lines c seed (line ∷ lines) = play_on c seed (play_lines c seed lines) line

-- the play of a trace over a registry
unfoldable pub play_of : Configuration → Told → Played
play_of c told = play_lines c told.seed told.lines

-- ---- the play as a value

-- a play with the seed of the random words and the running world
pub record Playing : Type 0 where
  pub seed : List ℕ
  pub running : Running
  pub at : ℕ
  pub ended : Option ℕ

abbrev pub played_of : Playing → Played
played_of p = record { world = world_of p.running; jars = p.running.jars; at = p.at; ended = p.ended }

-- nothing was played yet, and the seed is that of the trace
pub record HasBegun (p : Playing) (told : Told) : Type 0 where
  pub seed : p.seed ≡ told.seed
  pub nothing : played_of p ≡ nothing_played
