-- The sign-on theorem: its conclusion about a world.
use Rattle.std.specs.Prelude.{◌≡◌, ◌<◌, ℕ, ◌==◌, List, [], ◌∷◌, length, filter, Some}
use Rattle.sso_base.specs.Legal.{last_moment}
use Rattle.sso_base.specs.Words.{word_text}
use Rattle.sso_model.specs.Rows.{Live}
use Rattle.sso_model.specs.Machine.{IsRun}
use Rattle.rp_login.specs.declared.rows.SessionRow.{SessionRow}
use Rattle.rp_exchange.specs.declared.reply.RpReply.TheVariants.{Entered}
use Rattle.rp_answer.specs.Past.{RpPair}
use Rattle.rp_answer.specs.Visits.{live_visits}
use Rattle.sso_places.specs.declared.types.WorldAsk.{WorldAsk}
use Rattle.sso_places.specs.Site.{Site, client_of_party, types_at}
use Rattle.sso_places.specs.World.{World, Party, place_at, rp_past}
use Rattle.sso_places.specs.Each.{Each}
use Rattle.sso_places.specs.Reading.{user_of_subject, steps_at, machine_of}

-- The machine's session is the same as this live session of the party's history: the browser entered it at that place, under
-- that session word, for the login with that nonce. It is for the user with that subject, and has that `sid`.
pub record IsSameSession (s : Site) (world : World) (n : ℕ) (row : Live) (visit : SessionRow) : Type 0 where
  pub request : WorldAsk
  pub pair : RpPair
  pub place : place_at world row.event ≡ Some (Party n row.browser request pair)
  pub reply : pair.reply ≡ Entered visit.word visit.sub
  pub moment : pair.entry.at ≡ visit.entered
  pub nonce : row.nonce ≡ Some (word_text visit.nonce)
  pub user : user_of_subject s.configuration (client_of_party s n) visit.sub ≡ Some row.user
  pub sid : visit.sid ≡ Some row.sid

-- the sessions of a client
abbrev pub rows_of : ℕ → List Live → List Live
rows_of client rows = filter (λ (row : Live). row.client == client) rows

-- for each party, the live rows of its client are, in order, the sessions that are live in its history at its last moment
abbrev pub LiveRowsAgree : Site → World → Type 0
LiveRowsAgree s world =
    (n : ℕ) → n < length s.configuration.parties
    → Each (IsSameSession s world n) (rows_of (client_of_party s n) (machine_of s world).live)
    (live_visits (types_at s n) (rp_past n world) (last_moment (rp_past n world)))

-- After each prefix of the world, the reading is a run of the sign-on machine, and the live rows agree.
unfoldable pub SignsOn : Site → World → Type 0
SignsOn s [] = Unit {0}
SignsOn s (x ∷ world) =
    SignsOn s world × IsRun (machine_of s world) (steps_at s world (machine_of s world) x) × LiveRowsAgree s (x ∷ world)
