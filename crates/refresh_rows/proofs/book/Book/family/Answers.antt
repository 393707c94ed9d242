use Rattle.std.specs.Option.{option_copied}
use Rattle.refresh_rows.proofs.Looking.{family_found}
use Rattle.refresh_rows.proofs.book.Book.family.Goals as goal

pub returns : goal.returns
returns c =
    rw (← c.self.view_is)
    (family_found c.self.inside.families.rows c.args.number c.know_number.ensures c.find.ensures.held.sound c.new-place.result c.new-place.ensures c.as_bytes.result.now c.as_bytes.ensures (option_copied c.find.result) c.find.ensures.row)
