-- Decimal numbers, as they are parsed.
use Rattle.std.proofs.Common.{◌≡◌, ℕ, ◌^◌, ◌-◌, ◌<◌, ◌≤◌, min, nat_lt, nat_le, ◌&&◌, Bool, true, List, [], ◌∷◌, length, Result, Ok, Err, inl, inr, refl, arith}
use Rattle.std.specs.Char.{is_ascii_digit}
use Rattle.std.specs.List.{list_all}
use Rattle.std.specs.Str.Parse.{digits_value, ParsesUnsigned}
use Rattle.std.specs.Result.{OkIff, result_unwrap_or}
use Rattle.std.proofs.lemmas.Bool.{and_parts, leb-true, ltb-true, lt-ltb, le-leb, cases_lt}
use Rattle.std.proofs.lemmas.Str.Parse.{IsNumeralModel, numerals_by_value, parse_digits, digits_value_short}
use Rattle.sso_base.specs.Texts.{is_ascii}
use Rattle.sso_http.specs.Decimals.{is_decimal}

abbrev Digits : List ℕ → Type 0
Digits bs = list_all is_ascii_digit bs ≡ true

pub and_true : (a b : Bool) → a ≡ true → b ≡ true → (a && b) ≡ true
and_true a b p q = rw (p, q) refl

all_three : (a b c : Bool) → a ≡ true → b ≡ true → c ≡ true → ((a && b) && c) ≡ true
all_three a b c p q r = rw (p, q, r) refl

pub own : IsNumeralModel Digits (digits_value 10)
own = numerals_by_value Digits (record {
  empty = refl;
  parts = λ b bs h.
      let both = and_parts (is_ascii_digit b) (list_all is_ascii_digit bs) h in
      let range = and_parts (nat_le 48 b) (nat_le b 57) both.0 in
      ((leb-true 48 b range.0, leb-true b 57 range.1), both.1);
  more = λ b bs range h. all_three (nat_le 48 b) (nat_le b 57) (list_all is_ascii_digit bs) (le-leb 48 b range.0) (le-leb b 57 range.1) h;
})

some_digits : (bs : List ℕ) → is_decimal bs ≡ true → (0 < length bs) × Digits bs
some_digits bs h =
    let both = and_parts (nat_lt 0 (length bs)) (list_all is_ascii_digit bs) h in
    (ltb-true 0 (length bs) both.0, both.1)

all_ascii : (bs : List ℕ) → Digits bs → is_ascii bs ≡ true
all_ascii [] h = refl
all_ascii (b ∷ bs) h =
    let both = and_parts (is_ascii_digit b) (list_all is_ascii_digit bs) h in
    let range = and_parts (nat_le 48 b) (nat_le b 57) both.0 in
    let high : b ≤ 57 = leb-true b 57 range.1 in
    and_true (nat_lt b 128) (is_ascii bs) (lt-ltb b 128 (omega (arith, high))) (all_ascii bs both.1)

pub digits_are_ascii : (bs : List ℕ) → is_decimal bs ≡ true → is_ascii bs ≡ true
digits_are_ascii bs h = all_ascii bs (some_digits bs h).1

-- what is parsed, or the greatest number where that is greater
told_by : {E : Type 0} (some : Type 0) (v : ℕ) (r : Result ℕ E) → some → OkIff r (some × (v < 2 ^ 64)) v → result_unwrap_or r (2 ^ 64 - 1) ≡ min v (2 ^ 64 - 1)
told_by some v (Ok n) s h = omega (arith, h.0.1, h.1)
told_by some v (Err e) s h =
    elim (cases_lt v (2 ^ 64)) [
      | inl low ↦ absurd (h (s, low))
      | inr high ↦ omega (arith, high)
    ]

pub number_told : {E : Type 0} (bs : List ℕ) (r : Result ℕ E) → ParsesUnsigned 64 10 bs r → is_decimal bs ≡ true → result_unwrap_or r (2 ^ 64 - 1) ≡ min (digits_value 10 bs) (2 ^ 64 - 1)
number_told bs r h d =
    let both = some_digits bs d in
    told_by (0 < length bs) (digits_value 10 bs) r both.0 (parse_digits own 64 bs r h both.1)

-- nine digits spell less than that
pub short_is_small : (bs : List ℕ) → length bs ≤ 9 → is_decimal bs ≡ true → min (digits_value 10 bs) (2 ^ 64 - 1) ≡ digits_value 10 bs
short_is_small bs short d =
    let below = digits_value_short own bs 9 (some_digits bs d).1 short in
    omega (arith, below)
