use Rattle.std.proofs.Common.{refl}
use Rattle.sso_base.proofs.WordUtf8.{is_text}
use Rattle.pkce_party.proofs.key_text.KeyText.as_str.Goals as goal

pub unwrap-requires : goal.unwrap-requires
unwrap-requires c = is_text _ _ c.from_utf8.result _ _ refl c.self.invariant c.from_utf8.ensures.cases
