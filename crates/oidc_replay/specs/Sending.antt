-- The request that a line sends, by the replies of the places so far and the browsers' cookies.
use Rattle.std.specs.Prelude.{◌<◌, ℕ, Bool, true, false, List, length, Option, Some, None, option_map, option_and_then}
use Rattle.sso_base.specs.Words.{Word, Text}
use Rattle.client_registry.specs.Configuration.{Configuration}
use Rattle.sso_places.specs.declared.types.To.TheVariants as to
use Rattle.sso_places.specs.declared.types.WorldReply.{WorldReply}
use Rattle.sso_places.specs.World.{Place, World, place_at, from_of, role_at, reply_at}
use Rattle.cookie_jars.specs.declared.jar_note.JarNote.{JarNote}
use Rattle.cookie_jars.specs.Jars.{jar_of}
use Rattle.trace_lines.specs.declared.line.Shown.{Shown}
use Rattle.trace_lines.specs.declared.line.Shown.TheVariants as shown
use Rattle.trace_lines.specs.declared.line.Line.{Line}
use Rattle.trace_lines.specs.declared.line.Line.TheVariants.{Begin, Follow, Mix, Forge, Login, Consent, Visit, Leave, SignOut, Carry, Back, Raw}
use Rattle.web_requests.specs.declared.location.Location.{Location}
use Rattle.web_requests.specs.declared.sent.Sent.{Sent}
use Rattle.web_requests.specs.Locations.{location_of}
use Rattle.web_requests.specs.Following.{receiver, followed}
use Rattle.web_requests.specs.Mixing.{mixed}
use Rattle.web_requests.specs.Forging.{forged}
use Rattle.web_requests.specs.Posting.{login_posted, consent_posted}
use Rattle.web_requests.specs.Visiting.{login_begun, party_visited, party_left, signed_out}
use Rattle.web_requests.specs.Carrying.{carried}
use Rattle.sso_places.specs.Legal.{IsRole}
use Rattle.web_requests.specs.Handing.{handed_back}
use Rattle.web_requests.specs.Raw.{raw_sent}

-- ---- places

-- the reply of the place with this number
abbrev pub reply_of : World → ℕ → Option WorldReply
reply_of world place = option_map reply_at (place_at world place)

-- ---- locations

-- the location of the reply at a place
abbrev pub location_in : Configuration → World → ℕ → Option Location
location_in c world place = option_and_then (location_of c) (reply_of world place)

-- the same, with the value of a parameter of another place's location
abbrev pub mixed_in : Configuration → World → ℕ → Text → ℕ → Option Location
mixed_in c world place name other =
    option_and_then (λ location. option_and_then (mixed name location) (location_in c world other)) (location_in c world place)

-- the same, with an ID Token that is forged for this subject
abbrev pub forged_in : Configuration → World → ℕ → Text → Option Location
forged_in c world place user = option_and_then (λ reply. forged c reply user) (reply_of world place)

-- a browser's request to a location, with its cookies for the role that serves it
abbrev pub followed_on : Configuration → List JarNote → ℕ → Location → Option Sent
followed_on c jars from location =
    option_and_then (λ role. followed c from location (jar_of jars from role)) (receiver c location)

-- ---- servers

-- the reply of one place, passed to the role of another as the answer to that role's request
abbrev pub handed_between : Configuration → Place → Place → Option Sent
handed_between c asking answering =
    option_and_then
    (λ role. option_and_then (λ other. handed_back c (from_of asking) role (reply_at asking) other (reply_at answering)) (role_at answering))
    (role_at asking)

abbrev pub handed_in : Configuration → World → ℕ → ℕ → Option Sent
handed_in c world place answer =
    option_and_then (λ asking. option_and_then (handed_between c asking) (place_at world answer)) (place_at world place)

-- ---- requests that are written out in full

-- the cookie that the request presents: none, that of the jar, or this one
abbrev pub shown_word : Shown → Option Word → Option Word
shown_word shown.Absent kept = None
shown_word shown.Jar kept = kept
shown_word (shown.Given w) kept = Some w

-- ---- lines

-- the request of a line; none if a reply lacks what the line needs, or if no role serves the destination
abbrev pub line_sent : Configuration → World → List JarNote → Line → Option Sent
line_sent c world jars (Begin from party) = Some (login_begun from party (jar_of jars from (to.Party party)))
line_sent c world jars (Visit from party) = Some (party_visited from party (jar_of jars from (to.Party party)))
line_sent c world jars (Leave from party) = Some (party_left from party (jar_of jars from (to.Party party)))
line_sent c world jars (SignOut from) = Some (signed_out c from (jar_of jars from to.Provider))
line_sent c world jars (Follow from place) = option_and_then (followed_on c jars from) (location_in c world place)
line_sent c world jars (Mix from place name other) = option_and_then (followed_on c jars from) (mixed_in c world place name other)
line_sent c world jars (Forge from place user) = option_and_then (followed_on c jars from) (forged_in c world place user)
line_sent c world jars (Login from place user password) =
    option_and_then (λ reply. login_posted c from reply user password (jar_of jars from to.Provider)) (reply_of world place)
line_sent c world jars (Consent from place agree) =
    option_and_then (λ reply. consent_posted c from reply agree (jar_of jars from to.Provider)) (reply_of world place)
line_sent c world jars (Carry place message) = option_and_then (λ reply. carried c reply message) (reply_of world place)
line_sent c world jars (Back place answer) = handed_in c world place answer
line_sent c world jars (Raw from role method target first second auth body) =
    Some (raw_sent from role method target (shown_word first (jar_of jars from role).first) (shown_word second (jar_of jars from role).second) auth body)
line_sent c world jars line = None

-- ---- what is known of a line that was read

-- each role that the line names is in the registry
abbrev pub NamesRole : Configuration → Line → Type 0
NamesRole c (Begin from party) = party < length c.parties
NamesRole c (Visit from party) = party < length c.parties
NamesRole c (Leave from party) = party < length c.parties
NamesRole c (Raw from role method target first second auth body) = IsRole c role
NamesRole c line = Unit {0}

-- a browser follows a location in this line
abbrev pub follows_location : Line → Bool
follows_location (Follow from place) = true
follows_location (Mix from place name other) = true
follows_location (Forge from place user) = true
follows_location line = false

abbrev pub is_raw : Line → Bool
is_raw (Raw from role method target first second auth body) = true
is_raw line = false
