-- The rows of a relying party's tables: the word or text that names each, and the moment it begins.
use Rattle.std.specs.Prelude.{ℕ}
use Rattle.sso_base.specs.Words.{Word, Text}
use Rattle.rp_login.specs.declared.rows.LoginRow.{LoginRow}
use Rattle.rp_login.specs.declared.rows.PendingRow.{PendingRow}
use Rattle.rp_login.specs.declared.rows.SessionRow.{SessionRow}
use Rattle.rp_login.specs.declared.rows.SeenRow.{SeenRow}
use Rattle.rp_login.specs.declared.rows.DeadRow.{DeadRow}

-- ---- logins

abbrev pub login_name : LoginRow → Word
login_name login = login.state

abbrev pub login_begun : LoginRow → ℕ
login_begun login = login.begun

-- ---- pending exchanges: each lives from its request on

abbrev pub pending_name : PendingRow → Word
pending_name pending = pending.word

abbrev pub pending_begun : PendingRow → ℕ
pending_begun pending = pending.since

-- ---- visits: the sessions of the relying party

abbrev pub visit_name : SessionRow → Word
visit_name visit = visit.word

abbrev pub visit_begun : SessionRow → ℕ
visit_begun visit = visit.entered

-- ---- accepted logout tokens

abbrev pub seen_name : SeenRow → Text
seen_name seen = seen.jti

abbrev pub seen_begun : SeenRow → ℕ
seen_begun seen = seen.accepted

-- ---- session identifiers that accepted logout tokens named

abbrev pub dead_name : DeadRow → Text
dead_name dead = dead.sid

abbrev pub dead_begun : DeadRow → ℕ
dead_begun dead = dead.accepted
