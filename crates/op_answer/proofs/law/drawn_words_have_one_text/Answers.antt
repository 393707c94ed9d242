use Rattle.sso_base.proofs.DrawnWords.{texts_tell_words}
use Rattle.op_exchange.specs.Values.{IsOpAsk}
use Rattle.op_answer.specs.Answering.{op_answer}
use Rattle.op_answer.proofs.law.drawn_words_have_one_text.Goals as goal

pub returns : goal.returns
returns c = λ c. texts_tell_words IsOpAsk (op_answer c)
