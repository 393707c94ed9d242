use Rattle.trace_lines.proofs.FirstWords.{verb_is_text, text_is_verb}
use Rattle.trace_lines.proofs.law.kinds_have_their_first_words.Goals as goal

pub returns : goal.returns
returns c = λ word verb. (verb_is_text word verb, text_is_verb word verb)
