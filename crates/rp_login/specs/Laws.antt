-- Laws about the tables of a relying party. Each is a clause of a function of `law.rt`, which says it in words.
use Rattle.std.specs.Prelude.{◌≡◌, ℕ, false, List, ◌++◌, Option, Some, None, option_and_then}
use Rattle.std.specs.Str.{bytes_eq}
use Rattle.sso_base.specs.Words.{Word, Text}
use Rattle.sso_base.specs.Rows.{row_of, if_lives}
use Rattle.rp_login.specs.declared.rows.LoginRow.{LoginRow}
use Rattle.rp_login.specs.declared.rows.PendingRow.{PendingRow}
use Rattle.rp_login.specs.declared.rows.SessionRow.{SessionRow}
use Rattle.rp_login.specs.declared.rows.SeenRow.{SeenRow}
use Rattle.rp_login.specs.declared.rows.DeadRow.{DeadRow}
use Rattle.rp_login.specs.Named.{IsMeant}
use Rattle.rp_login.specs.Rows.{login_name, login_begun, pending_name, pending_begun, visit_name, visit_begun, seen_name, seen_begun, dead_name, dead_begun}
use Rattle.oidc_words.specs.Lives.{login_life, pending_life, visit_life, seen_life}
use Rattle.rp_login.specs.Tables.{Tables, AreLogins, ArePendings, AreVisits, AreSeens, AreDeads}
use Rattle.rp_login.specs.Calls as calls

-- ---- rows that are added

abbrev pub AddedLoginsAreFound : Type 0
AddedLoginsAreFound =
    (row : LoginRow) (t : Tables) → row_of login_name row.state t.logins ≡ None
    → row_of login_name row.state (calls.after (calls.add_login row) t).logins ≡ Some row

abbrev pub AddedExchangesAreFound : Type 0
AddedExchangesAreFound =
    (row : PendingRow) (t : Tables) → row_of pending_name row.word t.pendings ≡ None
    → row_of pending_name row.word (calls.after (calls.add_pending row) t).pendings ≡ Some row

abbrev pub AddedSessionsAreFound : Type 0
AddedSessionsAreFound =
    (row : SessionRow) (t : Tables) → row_of visit_name row.word t.visits ≡ None
    → row_of visit_name row.word (calls.after (calls.add_session row) t).visits ≡ Some row

abbrev pub AddedIdentifiersAreFound : Type 0
AddedIdentifiersAreFound =
    (row : SeenRow) (t : Tables) → row_of seen_name row.jti t.seens ≡ None
    → row_of seen_name row.jti (calls.after (calls.add_seen row) t).seens ≡ Some row

abbrev pub AddedDeadSidsAreFound : Type 0
AddedDeadSidsAreFound =
    (row : DeadRow) (t : Tables) → row_of dead_name row.sid t.deads ≡ None
    → row_of dead_name row.sid (calls.after (calls.add_dead row) t).deads ≡ Some row

abbrev pub AddsLeaveOtherLogins : Type 0
AddsLeaveOtherLogins =
    (state : Word) (row : LoginRow) (t : Tables) → bytes_eq row.state state ≡ false
    → row_of login_name state (calls.after (calls.add_login row) t).logins ≡ row_of login_name state t.logins

abbrev pub AddsLeaveOtherExchanges : Type 0
AddsLeaveOtherExchanges =
    (w : Word) (row : PendingRow) (t : Tables) → bytes_eq row.word w ≡ false
    → row_of pending_name w (calls.after (calls.add_pending row) t).pendings ≡ row_of pending_name w t.pendings

abbrev pub AddsLeaveOtherSessions : Type 0
AddsLeaveOtherSessions =
    (w : Word) (row : SessionRow) (t : Tables) → bytes_eq row.word w ≡ false
    → row_of visit_name w (calls.after (calls.add_session row) t).visits ≡ row_of visit_name w t.visits

abbrev pub AddsLeaveOtherIdentifiers : Type 0
AddsLeaveOtherIdentifiers =
    (jti : Text) (row : SeenRow) (t : Tables) → bytes_eq row.jti jti ≡ false
    → row_of seen_name jti (calls.after (calls.add_seen row) t).seens ≡ row_of seen_name jti t.seens

abbrev pub AddsLeaveOtherDeadSids : Type 0
AddsLeaveOtherDeadSids =
    (sid : Text) (row : DeadRow) (t : Tables) → bytes_eq row.sid sid ≡ false
    → row_of dead_name sid (calls.after (calls.add_dead row) t).deads ≡ row_of dead_name sid t.deads

-- ---- rows that are ended

abbrev pub EndsLeaveOtherLogins : Type 0
EndsLeaveOtherLogins =
    (v w : Word) (t : Tables) → bytes_eq v w ≡ false
    → row_of login_name w (calls.after (calls.end_login v) t).logins ≡ row_of login_name w t.logins

abbrev pub EndsLeaveOtherExchanges : Type 0
EndsLeaveOtherExchanges =
    (v w : Word) (t : Tables) → bytes_eq v w ≡ false
    → row_of pending_name w (calls.after (calls.end_pending v) t).pendings ≡ row_of pending_name w t.pendings

abbrev pub EndsLeaveOtherSessions : Type 0
EndsLeaveOtherSessions =
    (v w : Word) (t : Tables) → bytes_eq v w ≡ false
    → row_of visit_name w (calls.after (calls.end_session v) t).visits ≡ row_of visit_name w t.visits

abbrev pub EndsLeaveOtherDeadSids : Type 0
EndsLeaveOtherDeadSids =
    (ended sid : Text) (t : Tables) → bytes_eq ended sid ≡ false
    → row_of dead_name sid (calls.after (calls.end_dead ended) t).deads ≡ row_of dead_name sid t.deads

abbrev pub LoginsComeBackByAddsAlone : Type 0
LoginsComeBackByAddsAlone =
    (state : Word) (steps : List calls.Call) (t : Tables) → row_of login_name state t.logins ≡ None
    → calls.NoneAdds (calls.adds_login state) steps → row_of login_name state (calls.after_all steps t).logins ≡ None

abbrev pub ExchangesComeBackByAddsAlone : Type 0
ExchangesComeBackByAddsAlone =
    (w : Word) (steps : List calls.Call) (t : Tables) → row_of pending_name w t.pendings ≡ None
    → calls.NoneAdds (calls.adds_pending w) steps → row_of pending_name w (calls.after_all steps t).pendings ≡ None

abbrev pub SessionsComeBackByAddsAlone : Type 0
SessionsComeBackByAddsAlone =
    (w : Word) (steps : List calls.Call) (t : Tables) → row_of visit_name w t.visits ≡ None
    → calls.NoneAdds (calls.adds_session w) steps → row_of visit_name w (calls.after_all steps t).visits ≡ None

-- ---- purges

abbrev pub PurgesLeaveLiveLogins : Type 0
PurgesLeaveLiveLogins =
    (at : ℕ) (state : Word) (t : Tables) → AreLogins t.logins
    → row_of login_name state (calls.after (calls.purge at) t).logins
    ≡ option_and_then (if_lives login_life login_begun at) (row_of login_name state t.logins)

abbrev pub PurgesLeaveLiveExchanges : Type 0
PurgesLeaveLiveExchanges =
    (at : ℕ) (w : Word) (t : Tables) → ArePendings t.pendings
    → row_of pending_name w (calls.after (calls.purge at) t).pendings
    ≡ option_and_then (if_lives pending_life pending_begun at) (row_of pending_name w t.pendings)

abbrev pub PurgesLeaveLiveSessions : Type 0
PurgesLeaveLiveSessions =
    (at : ℕ) (w : Word) (t : Tables) → AreVisits t.visits
    → row_of visit_name w (calls.after (calls.purge at) t).visits
    ≡ option_and_then (if_lives visit_life visit_begun at) (row_of visit_name w t.visits)

abbrev pub PurgesLeaveLiveIdentifiers : Type 0
PurgesLeaveLiveIdentifiers =
    (at : ℕ) (jti : Text) (t : Tables) → AreSeens t.seens
    → row_of seen_name jti (calls.after (calls.purge at) t).seens
    ≡ option_and_then (if_lives seen_life seen_begun at) (row_of seen_name jti t.seens)

abbrev pub PurgesLeaveLiveDeadSids : Type 0
PurgesLeaveLiveDeadSids =
    (at : ℕ) (sid : Text) (t : Tables) → AreDeads t.deads
    → row_of dead_name sid (calls.after (calls.purge at) t).deads
    ≡ option_and_then (if_lives seen_life dead_begun at) (row_of dead_name sid t.deads)

abbrev pub SeenTokensAreRemembered : Type 0
SeenTokensAreRemembered =
    (row : SeenRow) (steps : List calls.Call) (t : Tables) → row_of seen_name row.jti t.seens ≡ Some row
    → calls.AllLeaveSeen row.accepted steps → row_of seen_name row.jti (calls.after_all steps t).seens ≡ Some row

abbrev pub DeadSidsAreRemembered : Type 0
DeadSidsAreRemembered =
    (row : DeadRow) (steps : List calls.Call) (t : Tables) → row_of dead_name row.sid t.deads ≡ Some row
    → calls.AllLeaveDead row.sid row.accepted steps → row_of dead_name row.sid (calls.after_all steps t).deads ≡ Some row

-- ---- logout

abbrev pub NamedSessionsAreEnded : Type 0
NamedSessionsAreEnded =
    (sub sid : Option Text) (w : Word) (visit : SessionRow) (t : Tables) → AreVisits t.visits
    → row_of visit_name w t.visits ≡ Some visit → IsMeant sub sid visit
    → row_of visit_name w (calls.after (calls.end_named sub sid) t).visits ≡ None

abbrev pub OtherSessionsStay : Type 0
OtherSessionsStay =
    (sub sid : Option Text) (w : Word) (visit : SessionRow) (t : Tables) → row_of visit_name w t.visits ≡ Some visit
    → (IsMeant sub sid visit → ⊥) → row_of visit_name w (calls.after (calls.end_named sub sid) t).visits ≡ Some visit

abbrev pub SessionsKeepTheirOrder : Type 0
SessionsKeepTheirOrder =
    (sub sid : Option Text) (front rest : List SessionRow) (t : Tables) → t.visits ≡ front ++ rest
    → (calls.after (calls.end_named sub sid) t).visits
    ≡ (calls.after (calls.end_named sub sid) (record t { visits = front })).visits
    ++ (calls.after (calls.end_named sub sid) (record t { visits = rest })).visits
