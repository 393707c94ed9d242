use Rattle.sso_base.proofs.WordUtf8.{IsUtf8-word_text, is_text}
use Rattle.sso_base.proofs.word.Word.to_text.Goals as goal

pub unwrap-text-requires : goal.unwrap-text-requires
unwrap-text-requires c = is_text _ _ c.from_utf8.result _ _ c.text-bytes.ensures (IsUtf8-word_text c.args.self.now) c.from_utf8.ensures.cases
