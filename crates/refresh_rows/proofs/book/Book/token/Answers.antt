use Rattle.std.specs.Option.{option_copied}
use Rattle.refresh_rows.proofs.Looking.{token_found}
use Rattle.refresh_rows.proofs.book.Book.token.Goals as goal

pub returns : goal.returns
returns c =
    rw (← c.self.view_is)
    (token_found c.self.inside.tokens.rows c.args.word c.in-Some.word c.in-Some.is (option_copied c.find.result) c.as_bytes.result.now c.as_bytes.ensures c.find.ensures.row c.shown.result c.shown.ensures)
