use Rattle.trace_lines.proofs.Cutting.{words_cut, words_are}
use Rattle.trace_lines.proofs.law.lines_are_cut_at_single_spaces.Goals as goal

pub returns : goal.returns
returns c = λ line words. (words_cut line words, words_are line words)
