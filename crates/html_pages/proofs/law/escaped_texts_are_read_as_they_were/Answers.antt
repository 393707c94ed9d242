use Rattle.html_pages.proofs.EscapedTexts.{inert, read_as_it_was}
use Rattle.html_pages.proofs.law.escaped_texts_are_read_as_they_were.Goals as goal

pub returns-clause-inert : goal.returns-clause-inert
returns-clause-inert c = inert

pub returns-clause-read : goal.returns-clause-read
returns-clause-read c = read_as_it_was
