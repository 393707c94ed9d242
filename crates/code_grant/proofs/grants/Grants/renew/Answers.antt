use Rattle.std.proofs.Common.{sym}
use Rattle.sso_base.proofs.RowLaws.{bytes_same}
use Rattle.held_rows.proofs.HeldLaws.{row_of_named}
use Rattle.code_grant.specs.Rows.{session_name}
use Rattle.code_grant.proofs.grants.Grants.renew.Goals as goal

pub put-requires-clause-named : goal.put-requires-clause-named
put-requires-clause-named c =
    bytes_same c.in-Some.row.now.word c.bytes-name.result (row_of_named session_name c.bytes-name.result c.self.inside.sessions.rows c.in-Some.row.now (sym c.in-Some.ensures.row))
