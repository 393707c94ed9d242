-- Strict base64url without padding (RFC 4648, 5; RFC 7515, 2): the alphabet with '-' and '_', no '=', and no bits set after the
-- last byte.
use Rattle.std.specs.Prelude.{ℕ, ◌==◌, ◌&&◌, nat_lt, Bool, List, length, Option, Some, None, option_and_then, if◌then◌else◌}
use Rattle.std.specs.List.{list_all}
use Rattle.std.specs.Str.{bytes_eq}
use Rattle.base64.specs.Engines.{url_safe_no_pad}
use Rattle.base64.specs.GeneralPurpose.{encode_of, decoded_of}

-- the text that encodes the bytes
unfoldable pub b64u : List ℕ → List ℕ
b64u b = encode_of url_safe_no_pad b

-- each number is below 256
abbrev pub all_bytes : List ℕ → Bool
all_bytes b = list_all (λ x. nat_lt x 256) b

-- the bytes, if the text is their text in this encoding
abbrev pub if_spelled : (List ℕ → List ℕ) → List ℕ → List ℕ → Option (List ℕ)
if_spelled encoded t b = if bytes_eq (encoded b) t && all_bytes b then Some b else None

-- the bytes that a text encodes
unfoldable pub unb64u : List ℕ → Option (List ℕ)
unb64u t = option_and_then (if_spelled b64u t) (decoded_of url_safe_no_pad t)

abbrev pub if_32 : List ℕ → Option (List ℕ)
if_32 b = if length b == 32 then Some b else None

-- the 32 bytes that a text encodes
unfoldable pub unb64u_32 : List ℕ → Option (List ℕ)
unb64u_32 t = option_and_then if_32 (unb64u t)
