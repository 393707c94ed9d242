-- The model of the provider's tables, and the meaning of reserved room.
use Rattle.code_grant.specs.declared.grants.Grants.TheInside.{Inside}
use Rattle.held_rows.specs.Held.{HasMemory}
use Rattle.code_grant.specs.Tables.{Tables}

abbrev pub tables_of : Inside → Tables
tables_of g = record {
  turns = g.turns.rows;
  sessions = g.sessions.rows;
  codes = g.codes.rows;
  tokens = g.tokens.rows;
  consents = g.consents;
  reserved = g.reserved;
}

-- if room is reserved in a table, there is memory for one more row
pub record IsRoomReserved (g : Inside) : Type 0 where
  pub turns : HasMemory g.reserved.turns g.turns
  pub sessions : HasMemory g.reserved.sessions g.sessions
  pub codes : HasMemory g.reserved.codes g.codes
  pub tokens : HasMemory g.reserved.tokens g.tokens
