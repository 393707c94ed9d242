use Rattle.html_pages.proofs.PostedTags.{form_read, hidden_read}
use Rattle.html_pages.proofs.law.forms_are_read_as_they_were_written.Goals as goal

pub returns-clause-form : goal.returns-clause-form
returns-clause-form c = form_read

pub returns-clause-hidden : goal.returns-clause-hidden
returns-clause-hidden c = hidden_read
