use Rattle.sso_base.proofs.WordTexts.{word_of_text-word_text, word_of_text_some, word_text_inj, word_of_text_inj}
use Rattle.sso_base.proofs.law.words_have_one_text.Goals as goal

pub returns-clause-read_back : goal.returns-clause-read_back
returns-clause-read_back c = word_of_text-word_text

pub returns-clause-spelled : goal.returns-clause-spelled
returns-clause-spelled c = word_of_text_some

pub returns-clause-word_is_determined : goal.returns-clause-word_is_determined
returns-clause-word_is_determined c = word_text_inj

pub returns-clause-text_is_determined : goal.returns-clause-text_is_determined
returns-clause-text_is_determined c = word_of_text_inj
