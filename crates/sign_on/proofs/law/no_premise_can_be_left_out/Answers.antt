use Rattle.sign_on.proofs.BrokenPremises.{not_without_legal_replies, not_without_distinct_words, not_without_own_cookies, not_without_written_tokens, not_without_joined_answers}
use Rattle.sign_on.proofs.law.no_premise_can_be_left_out.Goals as goal

pub returns-clause-legal : goal.returns-clause-legal
returns-clause-legal c = not_without_legal_replies

pub returns-clause-words : goal.returns-clause-words
returns-clause-words c = not_without_distinct_words

pub returns-clause-cookies : goal.returns-clause-cookies
returns-clause-cookies c = not_without_own_cookies

pub returns-clause-tokens : goal.returns-clause-tokens
returns-clause-tokens c = not_without_written_tokens

pub returns-clause-answers : goal.returns-clause-answers
returns-clause-answers c = not_without_joined_answers
