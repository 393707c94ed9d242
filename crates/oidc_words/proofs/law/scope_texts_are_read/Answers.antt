use Rattle.oidc_words.proofs.ScopeTexts.{text_is_read, all_words}
use Rattle.oidc_words.proofs.law.scope_texts_are_read.Goals as goal

pub returns-clause-read : goal.returns-clause-read
returns-clause-read c = text_is_read

pub returns-clause-all : goal.returns-clause-all
returns-clause-all c = all_words
