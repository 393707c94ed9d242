use Rattle.std.specs.Str.{IsUtf8}
use Rattle.sso_http.proofs.AsciiTexts.{ascii_utf8, ok_where}
use Rattle.sso_http.proofs.ascii.ascii_text.Goals as goal

pub unwrap-requires : goal.unwrap-requires
unwrap-requires c = ok_where _ _ (IsUtf8 c.args.bytes.now) _ (ascii_utf8 c.args.bytes.now c.requires) c.from_utf8.ensures.cases
