-- The laws of base64 with padding: a text spells bytes if and only if it is their text.
use Rattle.std.proofs.Common.{◌≡◌, ℕ, List, Some, None, Ok, Err, true, refl, sym}
use Rattle.std.specs.Str.{bytes_eq}
use Rattle.std.proofs.lemmas.Slice.Eq.{bytes_eq-Decides}
use Rattle.base64.specs.Engines.{standard}
use Rattle.base64.specs.GeneralPurpose.{encode_of, decode_of, decoded_of, IsBytes}
use Rattle.base64.specs.declared.decode.DecodeError.{DecodeError}
use Rattle.base64.proofs.EngineFacts.{decode_of-encode_of}
use Rattle.sso_base.proofs.Spelling.{if_spelled_some, all_bytes-from_IsBytes}
use Rattle.token_endpoint.specs.Base64.{b64, unb64}

-- a text that spells bytes is their text
pub unb64_some : (s b : List ℕ) → unb64 s ≡ Some b → (s ≡ b64 b) × IsBytes b
unfolding unb64
unb64_some s b e = if_spelled_some b64 s b (decoded_of standard s) e

decoded : (s b : List ℕ) → decode_of standard s ≡ Ok b → s ≡ b64 b → IsBytes b → unb64 s ≡ Some b
unfolding unb64 decoded_of
decoded s b e f g =
    let spelled : bytes_eq (b64 b) s ≡ true = (bytes_eq-Decides (b64 b) s).1 (sym f) in
    rw (e, spelled, all_bytes-from_IsBytes b g)

-- the text of bytes spells them
pub unb64-b64 : (b : List ℕ) → IsBytes b → unb64 (b64 b) ≡ Some b
unfolding b64
unb64-b64 b h = decoded (b64 b) b (decode_of-encode_of standard b refl h) refl h

-- what the decoder answers
pub engine_ok : (s b : List ℕ) → decode_of standard s ≡ Ok b → s ≡ encode_of standard b → IsBytes b → Some b ≡ unb64 s
unfolding b64
engine_ok s b e f g = sym (decoded s b e f g)

pub engine_err : (s : List ℕ) (d : DecodeError) → decode_of standard s ≡ Err d → None ≡ unb64 s
unfolding unb64 decoded_of
engine_err s d e = rw e
