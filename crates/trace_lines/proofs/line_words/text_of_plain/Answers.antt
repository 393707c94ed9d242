use Rattle.trace_lines.proofs.PlainText.{plain_utf8, ok_where}
use Rattle.trace_lines.proofs.line_words.text_of_plain.Goals as goal

pub unwrap-requires : goal.unwrap-requires
unwrap-requires c = ok_where _ _ _ c.from_utf8.result (plain_utf8 c.args.line.now c.requires) c.from_utf8.ensures.cases
