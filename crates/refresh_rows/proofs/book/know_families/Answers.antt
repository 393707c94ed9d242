use Rattle.refresh_rows.proofs.book.know_families.Goals as goal

pub returns : goal.returns
returns c = c.find-row.ensures.held.sound
