-- The model of a relying party's tables, and the meaning of reserved room.
use Rattle.rp_login.specs.declared.tables.Logins.TheInside.{Inside}
use Rattle.held_rows.specs.Held.{HasMemory}
use Rattle.rp_login.specs.Tables.{Tables}

abbrev pub tables_of : Inside → Tables
tables_of l = record {
  logins = l.logins.rows;
  pendings = l.pendings.rows;
  visits = l.visits.rows;
  seens = l.seens.rows;
  deads = l.deads.rows;
  reserved = l.reserved;
}

-- if room is reserved in a table, there is memory for one more row
pub record IsRoomReserved (l : Inside) : Type 0 where
  pub logins : HasMemory l.reserved.logins l.logins
  pub pendings : HasMemory l.reserved.pendings l.pendings
  pub visits : HasMemory l.reserved.visits l.visits
  pub seens : HasMemory l.reserved.seens l.seens
  pub deads : HasMemory l.reserved.deads l.deads
