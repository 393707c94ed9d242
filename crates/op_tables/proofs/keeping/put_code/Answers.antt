use Rattle.op_tables.proofs.KeptTables.{code_pushed}
use Rattle.op_tables.proofs.keeping.put_code.Goals as goal

pub issue_code-requires : goal.issue_code-requires
issue_code-requires c =
    let may = rw c.in-Some.is at c.requires in
    record { reserved = may.0.room; few = may.0.few; unnamed = may.0.unnamed; latest = may.0.latest; user = may.1; client = may.2 }

pub returns-in-Some : goal.returns-in-Some
returns-in-Some c =
    let may = rw c.in-Some.is at c.requires in
    rw (c.in-Some.is, c.issue_code.ensures) (code_pushed c.in-Some.row c.args.grants.now may.0.unnamed)
