use Rattle.oidc_words.proofs.TypeTexts.{text_read, in_any_order, texts_in_order, has_its_words, number_below}
use Rattle.oidc_words.proofs.law.type_texts_are_read.Goals as goal

pub returns-clause-read : goal.returns-clause-read
returns-clause-read c = text_read

pub returns-clause-any_order : goal.returns-clause-any_order
returns-clause-any_order c = in_any_order

pub returns-clause-order : goal.returns-clause-order
returns-clause-order c = texts_in_order

pub returns-clause-words : goal.returns-clause-words
returns-clause-words c = has_its_words

pub returns-clause-below : goal.returns-clause-below
returns-clause-below c = number_below
