use Rattle.std.specs.Prelude.{⊤}
use Rattle.base64.specs.Decode.{groups_error, groups_bytes, scan_steps}
use Rattle.base64.specs.GeneralPurpose.{decoded_of}
use Rattle.base64.specs.Rfc4648.{encode_symbols}
use Rattle.sso_base.specs.Base64Url.{b64u, unb64u, unb64u_32}

-- what an answer unfolds to compute base64url on literals
unfoldable pub base64url_on_literals : ⊤
unfolding unb64u_32 unb64u b64u decoded_of groups_error groups_bytes scan_steps encode_symbols
base64url_on_literals = tt
