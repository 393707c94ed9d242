-- What hexadecimal digits spell is bytes.
use Rattle.std.proofs.Common.{◌≡◌, ℕ, Bool, true, false, cond, List, [], length, ◌==◌, replicate, Option, Some, None, option_and_then, unwrap_or, Result, Ok, Err, refl, subst}
use Rattle.toml.specs.Data.{Data}
use Rattle.base64.specs.GeneralPurpose.{IsBytes}
use Rattle.hex.specs.declared.error.FromHexError.{FromHexError}
use Rattle.hex.specs.Hex.{decode_of}
use Rattle.hex.proofs.HexLemmas.{decode_of-ok}
use Rattle.sso_base.proofs.Spelling.{IsBytes-from_all_bytes}
use Rattle.configuration_rows.specs.Values.{bytes_found, hex_bytes, text_at, hex_at}
use Rattle.client_registry.specs.Records.{proof_of}

same_bytes : (a b : List ℕ) → Some a ≡ Some b → a ≡ b
same_bytes a b h = cc

no_bytes : {B : Type 0} (a : List ℕ) → None ≡ Some a → B
no_bytes a h = absurd (cc)

found : (r : Result (List ℕ) FromHexError) (t bytes : List ℕ) → decode_of t ≡ r → bytes_found r ≡ Some bytes → IsBytes bytes
found (Ok b) t bytes is h = subst IsBytes (same_bytes b bytes h) (decode_of-ok t b is).3
found (Err e) t bytes is h = no_bytes bytes h

spelled : (o : Option (List ℕ)) (bytes : List ℕ) → option_and_then hex_bytes o ≡ Some bytes → IsBytes bytes
spelled None bytes h = no_bytes bytes h
spelled (Some t) bytes h = found (decode_of t) t bytes refl h

or_none : (o : Option (List ℕ)) → ((bytes : List ℕ) → o ≡ Some bytes → IsBytes bytes) → IsBytes (unwrap_or o [])
or_none None h = IsBytes-from_all_bytes [] refl
or_none (Some bytes) h = h bytes refl

-- what the text at a key spells is bytes
pub hex_is_bytes : (key : List ℕ) (d : Data) → IsBytes (hex_at key d)
hex_is_bytes key d = or_none (option_and_then hex_bytes (text_at key d)) (spelled (text_at key d))

proof_at : (t : Bool) (bytes : List ℕ) → IsBytes bytes → IsBytes (cond t bytes (replicate 32 0))
proof_at true bytes h = h
proof_at false bytes h = IsBytes-from_all_bytes (replicate 32 0) refl

-- so is the proof that stands in a record
pub proof_is_bytes : (bytes : List ℕ) → IsBytes bytes → IsBytes (proof_of bytes)
proof_is_bytes bytes h = proof_at (length bytes == 32) bytes h
