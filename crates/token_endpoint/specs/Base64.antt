-- Strict base64 with padding (RFC 4648, 4): the alphabet with '+' and '/', the exact number of '=', and no bits set after the
-- last byte.
use Rattle.std.specs.Prelude.{ℕ, List, Option, option_and_then}
use Rattle.base64.specs.Engines.{standard}
use Rattle.base64.specs.GeneralPurpose.{encode_of, decoded_of}
use Rattle.sso_base.specs.Base64Url.{if_spelled}

-- the text that encodes the bytes
unfoldable pub b64 : List ℕ → List ℕ
b64 b = encode_of standard b

-- the bytes that a text encodes
unfoldable pub unb64 : List ℕ → Option (List ℕ)
unb64 t = option_and_then (if_spelled b64 t) (decoded_of standard t)
