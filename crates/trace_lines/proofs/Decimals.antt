-- The words that are read as numbers are the texts of numbers.
use Rattle.std.proofs.Common.{◌≡◌, ◌≢◌, ℕ, suc, zero, ◌+◌, ◌-◌, ◌*◌, ◌^◌, ◌<◌, ◌≤◌, ◌==◌, ◌&&◌, ◌↔◌, true, cond, nat_lt, List, [], ◌∷◌, length, get_or, Option, Some, None, inl, inr, refl, rules, sym, ap, subst, ◌∙◌, arith}
use Rattle.std.specs.Char.{is_ascii_digit}
use Rattle.std.specs.Fmt.{decimal}
use Rattle.std.specs.Option.{IfSome}
use Rattle.std.specs.Str.{all_ascii_digits}
use Rattle.std.proofs.lemmas.Bool.{cases_Bool, and_parts, and_from, ltb-true, lt-ltb}
use Rattle.std.proofs.lemmas.Bool.Decides.{eqb_tells}
use Rattle.std.proofs.lemmas.Fmt.{decimal_digit, decimal-digits_value, digits_decimal, digits_value-decimal, first_decimal}
use Rattle.std.proofs.lemmas.Str.Parse.{IsNumeralModel, numerals_by_fold}
use Rattle.trace_lines.specs.Number.{digits_from, number_of}

-- the value of digits, without a bound
abbrev value_from : ℕ → List ℕ → ℕ
value_from n [] = n
value_from n (b ∷ bs) = value_from (10 * n + (b - 48)) bs

numerals : IsNumeralModel (λ ds. all_ascii_digits ds ≡ true) (value_from 0)
numerals = numerals_by_fold _ (search rules) value_from (search rules)

-- what is read of digits is their value
record IsValue (n : ℕ) (bs : List ℕ) (value : ℕ) : Type 0 where
  pub digits : all_ascii_digits bs ≡ true
  pub same : value_from n bs ≡ value
  pub bound : value < 2 ^ 64

digits_value : (n : ℕ) (bs : List ℕ) → n < 2 ^ 64 → IfSome (digits_from n bs) (IsValue n bs)
digits_value n [] room = record { digits = refl; same = refl; bound = room }
digits_value n (b ∷ bs) room =
    let next : ℕ = 10 * n + (b - 48) in
    elim (cases_Bool (is_ascii_digit b && nat_lt next (2 ^ 64))) [
      | inl reads ↦
          let parts = and_parts (is_ascii_digit b) (nat_lt next (2 ^ 64)) reads in
          subst (λ t. IfSome (cond t (digits_from next bs) None) (IsValue n (b ∷ bs))) (sym reads)
          (value_onward n b bs parts.0 (digits_from next bs) (digits_value next bs (ltb-true next (2 ^ 64) parts.1)))
      | inr stops ↦ subst (λ t. IfSome (cond t (digits_from next bs) None) (IsValue n (b ∷ bs))) (sym stops) tt
    ]
  where
    value_onward : (n b : ℕ) (bs : List ℕ) → is_ascii_digit b ≡ true → (o : Option ℕ) → IfSome o (IsValue (10 * n + (b - 48)) bs) → IfSome o (IsValue n (b ∷ bs))
    value_onward n b bs digit None is = tt
    value_onward n b bs digit (Some value) is = record { digits = and_from (is_ascii_digit b) (all_ascii_digits bs) digit is.digits; same = is.same; bound = is.bound }

-- more digits never make a number smaller
value_grows : (n : ℕ) (bs : List ℕ) → n ≤ value_from n bs
value_grows n [] = omega arith
value_grows n (b ∷ bs) = let later : 10 * n + (b - 48) ≤ value_from (10 * n + (b - 48)) bs = value_grows (10 * n + (b - 48)) bs in omega arith

-- and digits of a small value are read
value_read : (n : ℕ) (bs : List ℕ) → all_ascii_digits bs ≡ true → value_from n bs < 2 ^ 64 → digits_from n bs ≡ Some (value_from n bs)
value_read n [] digits room = refl
value_read n (b ∷ bs) digits room =
    let next : ℕ = 10 * n + (b - 48) in
    let parts = and_parts (is_ascii_digit b) (all_ascii_digits bs) digits in
    let later : next ≤ value_from next bs = value_grows next bs in
    let small : next < 2 ^ 64 = omega arith in
    let test : (is_ascii_digit b && nat_lt next (2 ^ 64)) ≡ true = and_from (is_ascii_digit b) (nat_lt next (2 ^ 64)) parts.0 (lt-ltb next (2 ^ 64) small) in
    subst (λ t. cond t (digits_from next bs) None ≡ Some (value_from next bs)) (sym test) (value_read next bs parts.1 room)

-- ---- Words

-- a word that is read is the text of its number
record IsTextOf (word : List ℕ) (n : ℕ) : Type 0 where
  pub text : word ≡ decimal n
  pub bound : n < 2 ^ 64

zero_read : (b : ℕ) (bs : List ℕ) → b ≡ 48 → IfSome (cond (length bs == 0) (Some 0) None) (IsTextOf (b ∷ bs))
zero_read b [] is = record { text = ap (λ (d : ℕ). d ∷ []) is ∙ sym (decimal_digit 0 (omega arith)); bound = omega arith }
zero_read b (d ∷ bs) is =
    elim (eqb_tells (length (d ∷ bs)) 0) [
      | inl none ↦ absurd (omega arith)
      | inr some ↦ subst (λ t. IfSome (cond t (Some 0) None) (IsTextOf (b ∷ d ∷ bs))) (sym some.0) tt
    ]

value_text : (b : ℕ) (bs : List ℕ) → b ≢ 48 → (o : Option ℕ) → IfSome o (IsValue 0 (b ∷ bs)) → IfSome o (IsTextOf (b ∷ bs))
value_text b bs other None is = tt
value_text b bs other (Some n) is =
    let word : List ℕ = b ∷ bs in
    let same : value_from 0 word ≡ n = is.same in
    let bound : n < 2 ^ 64 = is.bound in
    let written : decimal (value_from 0 word) ≡ word = decimal-digits_value numerals word is.digits (omega arith) (λ e. absurd (other e)) (omega arith) in
    record { text = sym written ∙ ap decimal same; bound = bound }

number_text : (word : List ℕ) → IfSome (number_of word) (IsTextOf word)
number_text [] = tt
number_text (b ∷ bs) =
    elim (eqb_tells b 48) [
      | inl same ↦ subst (λ t. IfSome (cond t (cond (length bs == 0) (Some 0) None) (digits_from 0 (b ∷ bs))) (IsTextOf (b ∷ bs))) (sym same.0) (zero_read b bs same.1)
      | inr other ↦
          subst (λ t. IfSome (cond t (cond (length bs == 0) (Some 0) None) (digits_from 0 (b ∷ bs))) (IsTextOf (b ∷ bs))) (sym other.0)
          (value_text b bs other.1 (digits_from 0 (b ∷ bs)) (digits_value 0 (b ∷ bs) (omega arith)))
    ]

-- digits that begin with another one than 0 are read
digits_read : (word : List ℕ) → 48 < get_or word 0 0 → all_ascii_digits word ≡ true → value_from 0 word < 2 ^ 64 → number_of word ≡ Some (value_from 0 word)
digits_read [] first digits room = absurd (omega arith)
digits_read (b ∷ bs) first digits room =
    elim (eqb_tells b 48) [
      | inl same ↦ absurd (omega arith)
      | inr other ↦
          subst (λ t. cond t (cond (length bs == 0) (Some 0) None) (digits_from 0 (b ∷ bs)) ≡ Some (value_from 0 (b ∷ bs))) (sym other.0)
          (value_read 0 (b ∷ bs) digits room)
    ]

-- so is the text of each number
number_read : (n : ℕ) → n < 2 ^ 64 → number_of (decimal n) ≡ Some n
number_read zero room = subst (λ word. number_of word ≡ Some 0) (sym (decimal_digit 0 (omega arith))) refl
number_read (suc m) room =
    let n : ℕ = suc m in
    let same : value_from 0 (decimal n) ≡ n = digits_value-decimal numerals n room in
    digits_read (decimal n) (first_decimal n (omega arith) room) (digits_decimal numerals n room) (omega arith) ∙ ap Some same

-- A word is read as a number if and only if it is the decimal text of that number.
pub number_is_decimal : (word : List ℕ) (n : ℕ) → (number_of word ≡ Some n) ↔ ((word ≡ decimal n) × (n < 2 ^ 64))
number_is_decimal word n = (
  λ read. let is = subst (λ o. IfSome o (IsTextOf word)) read (number_text word) in (is.text, is.bound),
  λ is. subst (λ (w : List ℕ). number_of w ≡ Some n) (sym is.0) (number_read n is.1),
)

below_2_64 : (word : List ℕ) (o : Option ℕ) → IfSome o (IsTextOf word) → IfSome o (λ n. n < 2 ^ 64)
below_2_64 word None h = tt
below_2_64 word (Some n) h = h.bound

-- numbers that are read have 64 bits
pub number_below : (word : List ℕ) → IfSome (number_of word) (λ n. n < 2 ^ 64)
number_below word = below_2_64 word (number_of word) (number_text word)
