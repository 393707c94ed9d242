use Rattle.std.specs.Prelude.{⊤}
use Rattle.std.specs.Str.{is_utf8, chars}
use Rattle.serde_json.proofs.OnLiterals.{serde_json_on_literals}
use Rattle.hmac256.proofs.OnLiterals.{hmac_on_literals}
use Rattle.sso_base.proofs.OnLiterals.{base64url_on_literals}
use Rattle.jws_compact.specs.Jws.{read_object, typ_of, header_bytes, seal_text, three_parts, is_hs256, has_crit, verdict}

-- what an answer unfolds to compute sealed texts of literals
unfoldable pub jws_on_literals : ⊤
unfolding base64url_on_literals hmac_on_literals serde_json_on_literals is_utf8 chars read_object typ_of header_bytes seal_text three_parts is_hs256 has_crit verdict
jws_on_literals = tt
