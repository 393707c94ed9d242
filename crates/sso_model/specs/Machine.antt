-- The sign-on machine: when a step is allowed, and the state after it.
use Rattle.std.specs.Prelude.{◌≡◌, ◌≢◌, ℕ, Bool, List, [], ◌∷◌, ◌++◌, length, filter, not, ◌&&◌, ◌||◌, ◌==◌, if◌then◌else◌}
use Rattle.std.specs.List.{AllByRecursion}
use Rattle.std.specs.Str.{bytes_eq}
use Rattle.sso_model.specs.Lists.{Has, Lacks}
use Rattle.sso_model.specs.Rows.{Began, Signed, Answered, Sent, Entered, Live, Machine, Step, begin, sign, answer, redeem, out, close, enter, see, drop, end}
use Rattle.sso_model.specs.Rows.{lapse, unnamed, Dead, forget}

-- the initial state
abbrev pub start : Machine
start = record { began = []; signed = []; answered = []; redeemed = []; out = []; closed = []; entered = []; live = []; ended = []; dead = [] }

-- the sessions that an accepted logout message ends: those of its client and user and, if it says so, of its session identifier
-- only
abbrev pub is_meant : Sent → Live → Bool
is_meant message row = (row.client == message.client) && (row.user == message.user) && (not message.only || bytes_eq row.sid message.sid)

abbrev pub is_of : ℕ → Live → Bool
is_of event row = row.event == event

abbrev pub began_row : Live → Began
began_row row = record { client = row.client; browser = row.browser; nonce = row.nonce }

abbrev pub entered_row : Live → Entered
entered_row row = record { client = row.client; nonce = row.nonce }

-- the session identifier of a session at its client, and that of a message at its client
abbrev pub dead_row : Live → Dead
dead_row row = record { client = row.client; sid = row.sid }

abbrev pub dead_of : Sent → Dead
dead_of message = record { client = message.client; sid = message.sid }

abbrev pub is_dead : Dead → Dead → Bool
is_dead row other = (other.client == row.client) && bytes_eq other.sid row.sid

abbrev pub without_dead : Dead → List Dead → List Dead
without_dead row rows = filter (λ other. not (is_dead row other)) rows

-- the rows with the session identifier of a message, if the message ends only the sessions with this identifier; it is there
-- once
abbrev pub with_dead : Sent → List Dead → List Dead
with_dead message rows = if message.only then dead_of message ∷ without_dead (dead_of message) rows else rows

abbrev pub signed_row : Answered → Signed
signed_row row = record { sid = row.sid; user = row.user; browser = row.browser }

-- the provider answered this nonce of this client for this user, to any browser
pub record IsAnsweredFor (m : Machine) (row : Live) : Type 0 where
  pub answered : Answered
  pub has : Has m.answered answered
  pub nonce : answered.nonce ≡ row.nonce
  pub client : answered.client ≡ row.client
  pub user : answered.user ≡ row.user
  pub sid : answered.sid ≡ row.sid

-- a step is allowed
abbrev pub MayTake : Machine → Step → Type 0
MayTake m (begin row) = AllByRecursion (λ (b : Began). b.nonce ≢ row.nonce) m.began
MayTake m (sign row) = AllByRecursion (λ (s : Signed). s.sid ≡ row.sid → s ≡ row) m.signed × Lacks m.closed row.sid
MayTake m (answer row) = Has m.signed (signed_row row) × Lacks m.closed row.sid × AllByRecursion (λ (a : Answered). a.event ≢ row.event) m.answered
MayTake m (redeem event client) = ((a : Answered) × Has m.answered a × (a.event ≡ event) × (a.client ≡ client)) × Lacks m.redeemed event
MayTake m (out row) =
    ((a : Answered) × Has m.answered a × (a.client ≡ row.client) × (a.user ≡ row.user) × (a.sid ≡ row.sid))
    × Lacks m.closed row.sid
    × AllByRecursion (λ (o : Sent). o.place ≡ row.place → o.client ≢ row.client) m.out
MayTake m (close sid) = ((s : Signed) × Has m.signed s × (s.sid ≡ sid)) × Lacks m.closed sid
MayTake m (enter row) = Has m.began (began_row row) × IsAnsweredFor m row × Lacks m.entered (entered_row row) × Lacks m.dead (dead_row row)
MayTake m (see event client browser user) =
    (row : Live) × Has m.live row × (row.event ≡ event) × (row.client ≡ client) × (row.browser ≡ browser) × (row.user ≡ user)
MayTake m (drop event client browser) = (row : Live) × Has m.live row × (row.event ≡ event) × (row.client ≡ client) × (row.browser ≡ browser)
MayTake m (end row count) = Has m.out row × Lacks m.ended row × (count ≡ length (filter (is_meant row) m.live))
MayTake m (forget row) = Has m.dead row
MayTake m (lapse event) = (row : Live) × Has m.live row × (row.event ≡ event)
MayTake m unnamed = ⊥

-- the state after a step
abbrev pub after : Machine → Step → Machine
after m (begin row) = record m { began = row ∷ m.began }
after m (sign row) = record m { signed = row ∷ m.signed }
after m (answer row) = record m { answered = row ∷ m.answered }
after m (redeem event client) = record m { redeemed = event ∷ m.redeemed }
after m (out row) = record m { out = row ∷ m.out }
after m (close sid) = record m { closed = sid ∷ m.closed }
after m (enter row) = record m { entered = entered_row row ∷ m.entered; live = m.live ++ row ∷ [] }
after m (see event client browser user) = m
after m (drop event client browser) = record m { live = filter (λ row. not (is_of event row)) m.live }
after m (end message count) =
    record m { ended = message ∷ m.ended; live = filter (λ row. not (is_meant message row)) m.live; dead = with_dead message m.dead }
after m (forget row) = record m { dead = without_dead row m.dead }
after m (lapse event) = record m { live = filter (λ row. not (is_of event row)) m.live }
after m unnamed = m

abbrev pub after_all : Machine → List Step → Machine
after_all m [] = m
after_all m (s ∷ ss) = after_all (after m s) ss

-- each step is allowed in the state before it
abbrev pub IsRun : Machine → List Step → Type 0
IsRun m [] = Unit {0}
IsRun m (s ∷ ss) = MayTake m s × IsRun (after m s) ss
