-- A word is read as a number if and only if it is the decimal text of the number.
use Rattle.std.proofs.Common.{◌≡◌, ℕ, ◌^◌, ◌<◌, ◌≤◌, ◌&&◌, Bool, true, false, cond, nat_le, Option, Some, None, Result, Ok, Err, is_ok, inl, inr, refl, sym, ap, subst, ◌∙◌, arith}
use Rattle.std.specs.Fmt.{decimal}
use Rattle.std.specs.Str.{bytes_eq}
use Rattle.std.specs.Str.Parse.{digits_value, ParsesUnsigned}
use Rattle.std.proofs.lemmas.Bool.{cases_Bool, and_parts, and_from, both_ways, true≢false, leb-true, le-leb}
use Rattle.std.proofs.lemmas.Fmt.{decimal_is_IsNumeral, parse-decimal}
use Rattle.std.proofs.lemmas.Option.{same_Some}
use Rattle.std.proofs.lemmas.Slice.Eq.{bytes_eq-Decides}
use Rattle.sso_base.specs.Words.{Text}
use Rattle.command_line.specs.Numbers.{is_number, number_in}

-- the word is what the number prints, and the number is in the range
pub record IsPrinted (low high : ℕ) (word : Text) (n : ℕ) : Type 0 where
  pub text : word ≡ decimal n
  pub least : low ≤ n
  pub most : n ≤ high

printed : (low high : ℕ) (word : Text) (n : ℕ) → is_number low high word n ≡ true → IsPrinted low high word n
printed low high word n is =
    let parts = and_parts (bytes_eq (decimal n) word && nat_le low n) (nat_le n high) is in
    let front = and_parts (bytes_eq (decimal n) word) (nat_le low n) parts.0 in
    record {
      text = sym ((bytes_eq-Decides (decimal n) word).0 front.0);
      least = leb-true low n front.1;
      most = leb-true n high parts.1;
    }

-- this number, where the word is what it prints
abbrev number_if : ℕ → ℕ → Text → ℕ → Option ℕ
number_if low high word n = cond (is_number low high word n) (Some n) None

value_is : (word : Text) (n : ℕ) → n < 2 ^ 64 → word ≡ decimal n → digits_value 10 word ≡ n
value_is word n room is = ap (digits_value 10) is ∙ (decimal_is_IsNumeral n room).1

-- the number in a result, or 0
abbrev number_or_0 : {E : Type 0} → Result ℕ E → ℕ
number_or_0 (Ok n) = n
number_or_0 (Err e) = 0

module _ (low high : ℕ) (word : Text) (room : high < 2 ^ 32) where
  number_is : (n : ℕ) → is_number low high word n ≡ true → number_in low high word ≡ number_if low high word n
  number_is n is =
      let p : IsPrinted low high word n = printed low high word n is in
      let most : n ≤ high = p.most in
      ap (number_if low high word) (value_is word n (omega (arith, room)) p.text)

  parses_as : {E : Type 0} (n : ℕ) (r : Result ℕ E) → ParsesUnsigned 32 10 word r → is_number low high word n ≡ true → r ≡ Ok n
  parses_as n r parses is =
      let p : IsPrinted low high word n = printed low high word n is in
      let most : n ≤ high = p.most in
      parse-decimal 32 n word r (omega (arith, room)) (omega (arith, room)) p.text parses

  -- of a word that parses
  pub parsed : {E : Type 0} (n : ℕ) (r : Result ℕ E) → ParsesUnsigned 32 10 word r → r ≡ Ok n → number_if low high word n ≡ number_in low high word
  parsed n r parses is =
      let v : ℕ = digits_value 10 word in
      elim (cases_Bool (is_number low high word n)) [
        | inl fits ↦ sym (number_is n fits)
        | inr other ↦ elim (cases_Bool (is_number low high word v)) [
          | inl fitting ↦
              let same : n ≡ v = ap number_or_0 (sym is ∙ parses_as v r parses fitting) in
              absurd (both_ways (is_number low high word n) other (subst (λ (m : ℕ). is_number low high word m ≡ true) (sym same) fitting))
          | inr none ↦ ap (λ (b : Bool). cond b (Some n) None) other ∙ sym (ap (λ (b : Bool). cond b (Some v) None) none)
        ]
      ]

  -- of one that does not
  pub unparsed : {E : Type 0} (e : E) (r : Result ℕ E) → ParsesUnsigned 32 10 word r → r ≡ Err e → number_in low high word ≡ None
  unparsed e r parses is =
      let v : ℕ = digits_value 10 word in
      elim (cases_Bool (is_number low high word v)) [
        | inl fits ↦ absurd (true≢false (ap is_ok (sym (parses_as v r parses fits) ∙ is)))
        | inr other ↦ ap (λ (b : Bool). cond b (Some v) None) other
      ]

-- ---- both ways

printed_if : (low high : ℕ) (word : Text) (v n : ℕ) (is : Bool) → is_number low high word v ≡ is → cond is (Some v) None ≡ Some n → IsPrinted low high word n
printed_if low high word v n true fits same = subst (IsPrinted low high word) (same_Some v n same) (printed low high word v fits)
printed_if low high word v n false other same = absurd cc

pub number_printed : (low high : ℕ) (word : Text) (n : ℕ) → number_in low high word ≡ Some n → IsPrinted low high word n
number_printed low high word n is = printed_if low high word (digits_value 10 word) n (is_number low high word (digits_value 10 word)) refl is

pub number_read : (low high n : ℕ) → low ≤ n → n ≤ high → high < 2 ^ 32 → number_in low high (decimal n) ≡ Some n
number_read low high n least most room =
    let word : Text = decimal n in
    let fits : is_number low high word n ≡ true =
    and_from (bytes_eq word word && nat_le low n) (nat_le n high) (and_from (bytes_eq word word) (nat_le low n) ((bytes_eq-Decides word word).1 refl) (le-leb low n least)) (le-leb n high most) in
    number_is low high word room n fits ∙ ap (λ (b : Bool). cond b (Some n) None) fits
