use Rattle.sso_base.proofs.WordUtf8.{IsUtf8-word_text, is_text}
use Rattle.op_issue.proofs.id_tokens.hash_text.Goals as goal

pub unwrap-text-requires : goal.unwrap-text-requires
unwrap-text-requires c = is_text _ _ c.from_utf8.result _ _ c.half_hash-half.ensures (IsUtf8-word_text _) c.from_utf8.ensures.cases
