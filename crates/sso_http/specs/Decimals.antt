-- Decimal numbers (RFC 9110, 8.6: `1*DIGIT`).
use Rattle.std.specs.Prelude.{ℕ, ◌&&◌, nat_lt, nat_le, Bool, List, length, Option, Some, None, if◌then◌else◌}
use Rattle.std.specs.Char.{is_ascii_digit}
use Rattle.std.specs.List.{list_all}
use Rattle.std.specs.Str.Parse.{digits_value}

-- one or more digits
abbrev pub is_decimal : List ℕ → Bool
is_decimal text = nat_lt 0 (length text) && list_all is_ascii_digit text

-- the number with these digits
abbrev pub decimal_of : List ℕ → Option ℕ
decimal_of text = if is_decimal text then Some (digits_value 10 text) else None

-- the number with these digits, at most nine (our own bound)
abbrev pub short_decimal : List ℕ → Option ℕ
short_decimal text = if nat_le (length text) 9 then decimal_of text else None
