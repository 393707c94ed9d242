use Rattle.refresh_rows.proofs.Books.{empty_book}
use Rattle.refresh_rows.proofs.book.Book.new.Goals as goal

pub invariant_of-result : goal.invariant_of-result
invariant_of-result c = empty_book c.new-families.result.rows c.new-tokens.result.rows c.new-accesses.result.rows c.first-last.result c.new-families.ensures c.new-tokens.ensures c.new-accesses.ensures
