-- A relying party's tables as their calls see them, and the effect of each call.
use Rattle.std.specs.Prelude.{ℕ, Bool, true, false, not, List, [], ◌∷◌, ◌++◌, filter, length, Option}
use Rattle.sso_base.specs.Words.{Word, Text}
use Rattle.sso_base.specs.Rows.{without, live_rows}
use Rattle.rp_login.specs.declared.rows.LoginRow.{LoginRow}
use Rattle.rp_login.specs.declared.rows.PendingRow.{PendingRow}
use Rattle.rp_login.specs.declared.rows.SessionRow.{SessionRow}
use Rattle.rp_login.specs.declared.rows.SeenRow.{SeenRow}
use Rattle.rp_login.specs.declared.rows.DeadRow.{DeadRow}
use Rattle.rp_login.specs.declared.table.RpTable.{RpTable}
use Rattle.rp_login.specs.declared.table.RpTable.TheVariants.{Logins, Pendings, Sessions, Seen}
use Rattle.rp_login.specs.declared.table.Reserved.{Reserved}
use Rattle.rp_login.specs.Rows.{login_name, login_begun, pending_name, pending_begun, visit_name, visit_begun, seen_name, seen_begun, dead_name, dead_begun}
use Rattle.oidc_words.specs.Lives.{login_life, pending_life, visit_life, seen_life}
use Rattle.held_rows.specs.Held.{IsHeld, AnyRow, has_room_for_one, IsFull}
use Rattle.rp_login.specs.Named.{is_meant}

-- the rows of each table in the order in which they were added, and the tables in which room for one more row is reserved
pub record Tables : Type 0 where
  pub logins : List LoginRow
  pub pendings : List PendingRow
  pub visits : List SessionRow
  pub seens : List SeenRow
  pub deads : List DeadRow
  pub reserved : Reserved

abbrev pub no_tables : Tables
no_tables = record {
  logins = [];
  pendings = [];
  visits = [];
  seens = [];
  deads = [];
  reserved = record { logins = false; pendings = false; visits = false; seens = false; deads = false };
}

-- ---- the invariant of each table: at most 65,536 rows, with distinct names, in the order of the moments from which they live

abbrev pub AreLogins : List LoginRow → Type 0
AreLogins rows = IsHeld login_name login_begun AnyRow rows

abbrev pub ArePendings : List PendingRow → Type 0
ArePendings rows = IsHeld pending_name pending_begun AnyRow rows

abbrev pub AreVisits : List SessionRow → Type 0
AreVisits rows = IsHeld visit_name visit_begun AnyRow rows

abbrev pub AreSeens : List SeenRow → Type 0
AreSeens rows = IsHeld seen_name seen_begun AnyRow rows

abbrev pub AreDeads : List DeadRow → Type 0
AreDeads rows = IsHeld dead_name dead_begun AnyRow rows

-- ---- room

abbrev pub with_room : Tables → Tables
with_room t = record t { reserved = record { logins = true; pendings = true; visits = true; seens = true; deads = true } }

-- the tables without the rows whose life has ended at the moment; a session identifier is remembered as long as the logout
-- token that named it
abbrev pub purged : ℕ → Tables → Tables
purged at t = record t {
  logins = live_rows login_life login_begun at t.logins;
  pendings = live_rows pending_life pending_begun at t.pendings;
  visits = live_rows visit_life visit_begun at t.visits;
  seens = live_rows seen_life seen_begun at t.seens;
  deads = live_rows seen_life dead_begun at t.deads;
}

-- the number of rows of the table that live at the moment is below the limit
abbrev pub has_room : RpTable → ℕ → Tables → Bool
has_room Logins at t = has_room_for_one login_life login_begun at t.logins
has_room Pendings at t = has_room_for_one pending_life pending_begun at t.pendings
has_room Sessions at t = has_room_for_one visit_life visit_begun at t.visits
has_room Seen at t = has_room_for_one seen_life seen_begun at t.seens

-- the table has 65,536 rows, and a purge at the moment would remove none of them
abbrev pub IsFullTable : RpTable → ℕ → Tables → Type 0
IsFullTable Logins at t = IsFull login_life login_begun at t.logins
IsFullTable Pendings at t = IsFull pending_life pending_begun at t.pendings
IsFullTable Sessions at t = IsFull visit_life visit_begun at t.visits
IsFullTable Seen at t = IsFull seen_life seen_begun at t.seens

-- ---- one row more; it uses the reserved room

abbrev pub with_login : LoginRow → Tables → Tables
with_login row t = record t { logins = t.logins ++ row ∷ []; reserved = record t.reserved { logins = false } }

abbrev pub with_pending : PendingRow → Tables → Tables
with_pending row t = record t { pendings = t.pendings ++ row ∷ []; reserved = record t.reserved { pendings = false } }

abbrev pub with_visit : SessionRow → Tables → Tables
with_visit row t = record t { visits = t.visits ++ row ∷ []; reserved = record t.reserved { visits = false } }

abbrev pub with_seen : SeenRow → Tables → Tables
with_seen row t = record t { seens = t.seens ++ row ∷ []; reserved = record t.reserved { seens = false } }

abbrev pub with_dead : DeadRow → Tables → Tables
with_dead row t = record t { deads = t.deads ++ row ∷ []; reserved = record t.reserved { deads = false } }

-- ---- rows that end

abbrev pub login_ended : Word → Tables → Tables
login_ended state t = record t { logins = without login_name state t.logins }

abbrev pub pending_ended : Word → Tables → Tables
pending_ended w t = record t { pendings = without pending_name w t.pendings }

abbrev pub visit_ended : Word → Tables → Tables
visit_ended w t = record t { visits = without visit_name w t.visits }

abbrev pub dead_ended : Text → Tables → Tables
dead_ended sid t = record t { deads = without dead_name sid t.deads }

-- the tables without the sessions that match each given part
abbrev pub named_ended : Option Text → Option Text → Tables → Tables
named_ended sub sid t = record t { visits = filter (λ visit. not (is_meant sub sid visit)) t.visits }

-- the number of these sessions
abbrev pub named_count : Option Text → Option Text → Tables → ℕ
named_count sub sid t = length (filter (is_meant sub sid) t.visits)

-- the number of these sessions that live at the moment
abbrev pub live_named_count : Option Text → Option Text → ℕ → Tables → ℕ
live_named_count sub sid at t = named_count sub sid (purged at t)
