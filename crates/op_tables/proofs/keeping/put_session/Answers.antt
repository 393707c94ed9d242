use Rattle.op_tables.proofs.KeptTables.{session_pushed, session_may_start}
use Rattle.op_tables.proofs.keeping.put_session.Goals as goal

pub start_session-requires : goal.start_session-requires
start_session-requires c =
    let may = rw c.in-Some.is at c.requires in
    let add = session_may_start c.in-Some.row c.args.grants.now.reserved.sessions c.args.grants.now.sessions may.0 in
    rw c.end_session.ensures (record { reserved = add.room; few = add.few; unnamed = add.unnamed; latest = add.latest; user = may.1 })

pub returns-in-Some : goal.returns-in-Some
returns-in-Some c = rw (c.in-Some.is, c.start_session.ensures, c.end_session.ensures) (session_pushed c.in-Some.row c.args.grants.now)
