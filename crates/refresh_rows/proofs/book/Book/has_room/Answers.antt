use Rattle.std.specs.Option.{option_copied}
use Rattle.refresh_rows.proofs.Looking.{room_found}
use Rattle.refresh_rows.proofs.book.Book.has_room.Goals as goal

pub returns : goal.returns
returns c =
    rw (← c.self.view_is)
    (room_found c.self.inside.tokens.rows c.args.word c.len.result c.len.ensures c.are_few-few.result c.are_few-few.ensures (option_copied c.find.result) c.as_bytes.result.now c.as_bytes.ensures c.find.ensures.row
    c.is_absent-new.result c.is_absent-new.ensures c.both.result c.both.ensures)
