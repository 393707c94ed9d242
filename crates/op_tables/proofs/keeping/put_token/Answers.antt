use Rattle.op_tables.proofs.KeptTables.{token_pushed}
use Rattle.op_tables.proofs.keeping.put_token.Goals as goal

pub issue_token-requires : goal.issue_token-requires
issue_token-requires c =
    let may = rw c.in-Some.is at c.requires in
    record { reserved = may.0.room; few = may.0.few; unnamed = may.0.unnamed; latest = may.0.latest; user = may.1; client = may.2 }

pub returns-in-Some : goal.returns-in-Some
returns-in-Some c =
    let may = rw c.in-Some.is at c.requires in
    rw (c.in-Some.is, c.issue_token.ensures) (token_pushed c.in-Some.row c.args.grants.now may.0.unnamed)
