-- The tables after one more pair.
use Rattle.std.specs.Prelude.{◌≡◌, ◌≤◌, ℕ, Bool, List, ◌||◌, true, length, filter_map, Option, Some, None, is_some, option_and_then, if◌then◌else◌}
use Rattle.sso_base.specs.Words.{Word}
use Rattle.sso_base.specs.Rows.{put, row_of, live_rows}
use Rattle.logout_token.specs.declared.claims.LogoutClaims.{LogoutClaims}
use Rattle.oidc_words.specs.declared.response_types.Types.{Types}
use Rattle.rp_login.specs.declared.rows.LoginRow.{LoginRow}
use Rattle.rp_login.specs.declared.rows.PendingRow.{PendingRow}
use Rattle.rp_login.specs.declared.rows.SessionRow.{SessionRow}
use Rattle.rp_login.specs.declared.rows.SeenRow.{SeenRow}
use Rattle.rp_login.specs.declared.rows.DeadRow.{DeadRow}
use Rattle.rp_login.specs.declared.rows.Stage.{Stage}
use Rattle.rp_login.specs.Rows.{login_name, login_begun, pending_name, pending_begun, visit_name, visit_begun, seen_name, seen_begun, dead_name, dead_begun}
use Rattle.oidc_words.specs.Lives.{login_life, pending_life, visit_life, seen_life}
use Rattle.rp_login.specs.Tables.{Tables, with_login, with_pending, with_visit, with_seen, with_dead, dead_ended}
use Rattle.rp_answer.specs.Past.{RpPair, RpPast}
use Rattle.rp_answer.specs.Setup.{PartySetup, party_of}
use Rattle.rp_answer.specs.Logins.{logins, login_made, login_kept}
use Rattle.rp_answer.specs.Pendings.{if_stage, is_answered, pendings, pending_made, pending_kept}
use Rattle.rp_answer.specs.Visits.{visits, visit_made, visit_kept}
use Rattle.rp_answer.specs.Seens.{seens, seen_made, seen_kept, live_seens}
use Rattle.rp_answer.specs.Deads.{deads, dead_made, dead_kept, live_deads}
use Rattle.rp_answer.specs.Answering.{rp_answer}
use Rattle.rp_core.specs.Agreeing.{Agrees, IsBegun}
use Rattle.rp_core.specs.Making.{MakesRows}
use Rattle.rp_core.specs.declared.making.Made.{Made}

-- the rows that lived at the pair's moment, as the pair leaves them, and the rows that it makes
pub record IsUpdate (types : Types) (before after : Tables) (past : RpPast) (p : RpPair) : Type 0 where
  pub logins_are : after.logins
      ≡ put login_name (login_made (logins past) past p)
      (filter_map (login_kept past p) (live_rows login_life login_begun p.entry.at before.logins))
  pub pendings_are : after.pendings
      ≡ put pending_name (pending_made types (pendings types past) past p)
      (filter_map (pending_kept past p) (live_rows pending_life pending_begun p.entry.at before.pendings))
  pub visits_are : after.visits
      ≡ put visit_name (visit_made types (visits types past) past p)
      (filter_map (visit_kept past p) (live_rows visit_life visit_begun p.entry.at before.visits))
  pub seens_are : after.seens
      ≡ put seen_name (seen_made (seens past) past p)
      (filter_map (seen_kept past p) (live_rows seen_life seen_begun p.entry.at before.seens))
  pub deads_are : after.deads
      ≡ put dead_name (dead_made (deads past) past p)
      (filter_map (dead_kept past p) (live_rows seen_life dead_begun p.entry.at before.deads))

-- The precondition of an update: the tables agree with the past, the reply is the answer after it, the rows are those it makes,
-- and no more session identifiers are remembered than logout tokens.
pub record MayUpdate
    (s : PartySetup) (past : RpPast) (before : ℕ) (t : Tables) (p : RpPair) (login : Option LoginRow)
    (pending : Option PendingRow) (visit : Option SessionRow) (seen : Option SeenRow) (dead : Option DeadRow) : Type 0 where
  pub order : before ≤ p.entry.at
  pub agrees : Agrees (party_of s).types t past before
  pub begun : IsBegun t before
  pub reply_is : p.reply ≡ rp_answer s past p.entry
  pub rows : MakesRows (party_of s).types past p login pending visit seen dead
  pub few : length (live_deads past p.entry.at) ≤ length (live_seens past p.entry.at)

-- some setup, past and moment before the pair for which this is the precondition
abbrev pub MayUpdateTables : Tables → RpPair → Made → Type 0
MayUpdateTables t p made =
    (s : PartySetup) × (past : RpPast) × (before : ℕ) × MayUpdate s past before t p made.login made.pending made.visit made.seen made.dead

-- after each such past the tables follow the pair
abbrev pub UpdatesTables : Tables → Tables → RpPair → Made → Type 0
UpdatesTables t after p made =
    (s : PartySetup) (past : RpPast) (before : ℕ) → MayUpdate s past before t p made.login made.pending made.visit made.seen made.dead
    → IsUpdate (party_of s).types t after past p

-- ---- exchanges that get their response

-- the exchange with this word is waiting for this response
abbrev pub is_waiting : Word → Stage → List PendingRow → Bool
is_waiting w waits rows = is_some (option_and_then (if_stage waits) (row_of pending_name w rows))

-- the exchanges without it
abbrev pub without_answered : Word → Stage → List PendingRow → List PendingRow
without_answered w waits rows = filter_map (λ row. if is_answered (Some (w, waits)) row then None else Some row) rows

-- ---- sessions that a logout token ends

-- the token has a subject or a `sid` (OpenID Connect Back-Channel Logout 1.0, 2.4)
abbrev pub NamesSomebody : LogoutClaims → Type 0
NamesSomebody claims = (is_some claims.sub || is_some claims.sid) ≡ true

-- ---- rows that are added

abbrev pub login_put : Option LoginRow → Tables → Tables
login_put None t = t
login_put (Some row) t = with_login row t

abbrev pub pending_put : Option PendingRow → Tables → Tables
pending_put None t = t
pending_put (Some row) t = with_pending row t

abbrev pub visit_put : Option SessionRow → Tables → Tables
visit_put None t = t
visit_put (Some row) t = with_visit row t

abbrev pub seen_put : Option SeenRow → Tables → Tables
seen_put None t = t
seen_put (Some row) t = with_seen row t

-- the record of a session identifier takes the place of an earlier one of the same identifier
abbrev pub dead_put : Option DeadRow → Tables → Tables
dead_put None t = t
dead_put (Some row) t = with_dead row (dead_ended row.sid t)
