-- The first line of a trace: `sso-trace 1 SEED`.
use Rattle.std.specs.Prelude.{◌≡◌, ℕ, Bool, ◌&&◌, ◌||◌, nat_le, List, ◌++◌, length, take, drop, codes, Option, None, if◌then◌else◌}
use Rattle.std.specs.List.{list_all}
use Rattle.std.specs.Result.{result_ok}
use Rattle.std.specs.Str.{bytes_eq}
use Rattle.hex.specs.Hex.{IsBytes, decode_sized, encode_lower}

-- a lower-case hexadecimal digit
abbrev pub is_lower_hex : ℕ → Bool
is_lower_hex b = (nat_le 48 b && nat_le b 57) || (nat_le 97 b && nat_le b 102)

-- the 24 bytes of 48 lower-case hexadecimal digits
abbrev pub seed_of_digits : List ℕ → Option (List ℕ)
seed_of_digits digits = if list_all is_lower_hex digits then result_ok (decode_sized digits 24) else None

-- the seed in a header
abbrev pub seed_of : List ℕ → Option (List ℕ)
seed_of line = if bytes_eq (take 12 line) (codes "sso-trace 1 ") then seed_of_digits (drop 12 line) else None

-- ---- the same in elementary terms

-- the line is `sso-trace 1 ` and these 24 bytes, each as two of the digits 0 to 9 and a to f
pub record IsHeaderOf (seed line : List ℕ) : Type 0 where
  pub long : length seed ≡ 24
  pub bytes : IsBytes seed
  pub text : line ≡ codes "sso-trace 1 " ++ encode_lower seed
