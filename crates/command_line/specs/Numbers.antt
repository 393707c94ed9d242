-- Decimal numbers without leading zeros, in a range.
use Rattle.std.specs.Prelude.{ℕ, Bool, ◌&&◌, nat_le, Option, Some, None, if◌then◌else◌}
use Rattle.std.specs.Fmt.{decimal}
use Rattle.std.specs.Str.{bytes_eq}
use Rattle.std.specs.Str.Parse.{digits_value}
use Rattle.sso_base.specs.Words.{Text}

-- the word is the decimal text of the number, which is from `low` to `high`
abbrev pub is_number : ℕ → ℕ → Text → ℕ → Bool
is_number low high word n = bytes_eq (decimal n) word && nat_le low n && nat_le n high

-- the number with this decimal text, from `low` to `high`
abbrev pub number_in : ℕ → ℕ → Text → Option ℕ
number_in low high word = if is_number low high word (digits_value 10 word) then Some (digits_value 10 word) else None
