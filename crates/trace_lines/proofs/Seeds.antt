-- A header has the digits of its seed, and each line with the digits of a seed is its header.
use Rattle.std.proofs.Common.{◌≡◌, ◌<◌, ◌≤◌, ◌==◌, ◌&&◌, ◌+◌, ◌*◌, ◌/◌, ◌%◌, ℕ, zero, suc, Bool, true, false, cond, nat_le, List, [], ◌∷◌, ◌++◌, length, take, drop, slice_index, Option, Some, None, Result, Ok, Err, unwrap_or, inl, inr, refl, sym, ap, subst, ◌∙◌, arith}
use Rattle.std.specs.Prelude.{codes}
use Rattle.std.specs.List.{list_all}
use Rattle.std.specs.Result.{result_ok}
use Rattle.std.specs.Str.{bytes_eq}
use Rattle.std.proofs.lemmas.Bool.{and_parts, and_from, eqb-true, leb-true, cases_lt, true≢false}
use Rattle.std.proofs.lemmas.List.{take-append-drop}
use Rattle.std.proofs.lemmas.Slice.Eq.{bytes_eq-Decides}
use Rattle.hex.specs.Hex.{IsBytes, lower_digits, hex_digit_value, digit_or_error, value_at, pair_value, decode_pairs, decode_of, decode_sized, encode_with, encode_lower}
use Rattle.hex.specs.declared.error.FromHexError.{FromHexError}
use Rattle.hex.proofs.HexLemmas.{decode_sized-ok, decode_sized-twice, decode_of-ok, decode_of-even, decode_sized-encode_lower}
use Rattle.hex.proofs.Pairs.{cons_byte, decode_pairs-ok_pair}
use Rattle.trace_lines.specs.Header.{is_lower_hex, seed_of_digits, seed_of, IsHeaderOf}

-- ---- single digits, by trying all

-- the digit is read as a value below 16 and written as it was
abbrev keeps : ℕ → Bool
keeps c = cond (is_lower_hex c) (nat_le (unwrap_or (hex_digit_value c) 99) 15 && (slice_index lower_digits (unwrap_or (hex_digit_value c) 99) == c)) true

-- the value is written as a lower-case digit
abbrev is_lower : ℕ → Bool
is_lower d = is_lower_hex (slice_index lower_digits d)

abbrev all_pass : (ℕ → Bool) → ℕ → Bool
all_pass test zero = true
all_pass test (suc n) = test n && all_pass test n

passes : (test : ℕ → Bool) (n k : ℕ) → all_pass test n ≡ true → k < n → test k ≡ true
passes test zero k h less = absurd (omega arith)
passes test (suc n) k h less =
    let parts = and_parts (test n) (all_pass test n) h in
    elim (cases_lt k n) [
      | inl below ↦ passes test n k parts.1 below
      | inr top ↦
          let same : n ≡ k = omega arith in
          subst (λ m. test m ≡ true) same parts.0
    ]

all_keep : all_pass keeps 103 ≡ true
all_keep = refl

all_lower : all_pass is_lower 16 ≡ true
all_lower = refl

-- a lower-case digit, its value, and that it is written again
record IsDigit (c : ℕ) : Type 0 where
  pub value : ℕ
  pub low : value < 16
  pub read : hex_digit_value c ≡ Some value
  pub again : slice_index lower_digits value ≡ c

digit_small : (c : ℕ) → is_lower_hex c ≡ true → c < 103
digit_small c h = grind (arith)

kept : (c : ℕ) (b : Bool) (o : Option ℕ) → is_lower_hex c ≡ b → hex_digit_value c ≡ o → b ≡ true → cond b (nat_le (unwrap_or o 99) 15 && (slice_index lower_digits (unwrap_or o 99) == c)) true ≡ true → IsDigit c
kept c true None is value lower h = absurd (true≢false (sym (and_parts (nat_le 99 15) (slice_index lower_digits 99 == c) h).0))
kept c true (Some v) is value lower h =
    let parts = and_parts (nat_le v 15) (slice_index lower_digits v == c) h in
    let low : v ≤ 15 = leb-true v 15 parts.0 in
    record { value = v; low = omega arith; read = value; again = eqb-true (slice_index lower_digits v) c parts.1 }
kept c false o is value lower h = absurd (true≢false (sym lower))

digit_kept : (c : ℕ) → is_lower_hex c ≡ true → IsDigit c
digit_kept c lower = kept c (is_lower_hex c) (hex_digit_value c) refl refl lower (passes keeps 103 c all_keep (digit_small c lower))

-- ---- pairs of digits

-- what is behind the first byte
record IsBehind (v : ℕ) (r : Result (List ℕ) FromHexError) (bytes : List ℕ) : Type 0 where
  pub rest : List ℕ
  pub read : r ≡ Ok rest
  pub is : bytes ≡ v ∷ rest

behind : (v : ℕ) (r : Result (List ℕ) FromHexError) (bytes : List ℕ) → cons_byte v r ≡ Ok bytes → IsBehind v r bytes
behind v (Ok rest) bytes h = record { rest = rest; read = refl; is = cc }
behind v (Err e) bytes h = absurd (cc)

none_read : (bytes : List ℕ) → (let r : Result (List ℕ) FromHexError = Ok [] in r ≡ Ok bytes) → bytes ≡ []
none_read bytes h = cc

-- a byte is written as the two digits that it was read of
high_again : (a low : ℕ) (high : IsDigit a) → low < 16 → a ≡ slice_index lower_digits ((high.value * 16 + low) / 16)
high_again a low high less =
    let same : (high.value * 16 + low) / 16 ≡ high.value = omega arith in
    sym high.again ∙ ap (slice_index lower_digits) (sym same)

low_again : (high b : ℕ) (low : IsDigit b) → b ≡ slice_index lower_digits ((high * 16 + low.value) % 16)
low_again high b low =
    let less : low.value < 16 = low.low in
    let same : (high * 16 + low.value) % 16 ≡ low.value = omega arith in
    sym low.again ∙ ap (slice_index lower_digits) (sym same)

byte_again : (a b : ℕ) (high : IsDigit a) (low : IsDigit b) (digits rest : List ℕ) → digits ≡ encode_lower rest → a ∷ b ∷ digits ≡ encode_lower ((high.value * 16 + low.value) ∷ rest)
unfolding encode_with
byte_again a b high low digits rest same =
    ap (λ c. c ∷ b ∷ digits) (high_again a low.value high low.low)
    ∙ ap (λ c. slice_index lower_digits ((high.value * 16 + low.value) / 16) ∷ c ∷ digits) (low_again high.value b low)
    ∙ ap (λ ds. slice_index lower_digits ((high.value * 16 + low.value) / 16) ∷ slice_index lower_digits ((high.value * 16 + low.value) % 16) ∷ ds) same

pair_read : (i a b : ℕ) (high : IsDigit a) (low : IsDigit b) → pair_value a b i ≡ Ok (high.value * 16 + low.value)
pair_read i a b high low =
    let first : value_at a i ≡ Ok high.value = ap (digit_or_error a i) high.read in
    let second : value_at b (i + 1) ≡ Ok low.value = ap (digit_or_error b (i + 1)) low.read in
    rw (first, second) refl

-- lower-case digits that are read are those of their bytes
pairs_spelled : (i : ℕ) (digits bytes : List ℕ) → list_all is_lower_hex digits ≡ true → decode_pairs i digits ≡ Ok bytes → digits ≡ encode_lower bytes
unfolding decode_pairs encode_with
pairs_spelled i [] bytes lower h = ap encode_lower (sym (none_read bytes h))
pairs_spelled i (a ∷ []) bytes lower h = absurd (cc)
pairs_spelled i (a ∷ b ∷ digits) bytes lower h =
    let first = and_parts (is_lower_hex a) (list_all is_lower_hex (b ∷ digits)) lower in
    let second = and_parts (is_lower_hex b) (list_all is_lower_hex digits) first.1 in
    let high : IsDigit a = digit_kept a first.0 in
    let low : IsDigit b = digit_kept b second.0 in
    let split = decode_pairs-ok_pair i a b (high.value * 16 + low.value) digits (pair_read i a b high low) in
    let more = behind (high.value * 16 + low.value) (decode_pairs (i + 2) digits) bytes (sym split ∙ h) in
    byte_again a b high low digits more.rest (pairs_spelled (i + 2) digits more.rest second.1 more.read) ∙ ap encode_lower (sym more.is)

-- bytes are written in lower-case digits
bytes_lower : (bytes : List ℕ) → IsBytes bytes → list_all is_lower_hex (encode_lower bytes) ≡ true
unfolding encode_with
bytes_lower [] are = refl
bytes_lower (b ∷ bytes) are =
    let small : b < 256 = are 0 in
    let high : b / 16 < 16 = omega arith in
    let low : b % 16 < 16 = omega arith in
    and_from (is_lower (b / 16)) (is_lower (b % 16) && list_all is_lower_hex (encode_lower bytes)) (passes is_lower 16 (b / 16) all_lower high)
    (and_from (is_lower (b % 16)) (list_all is_lower_hex (encode_lower bytes)) (passes is_lower 16 (b % 16) all_lower low) (bytes_lower bytes (λ i. are (suc i))))

-- ---- seeds

ok_only : (r : Result (List ℕ) FromHexError) (bytes : List ℕ) → result_ok r ≡ Some bytes → r ≡ Ok bytes
ok_only (Ok x) bytes h = ap Ok cc
ok_only (Err e) bytes h = absurd (cc)

-- the text of a seed: 24 bytes in lower-case digits
record IsSpelled (seed digits : List ℕ) : Type 0 where
  pub long : length seed ≡ 24
  pub bytes : IsBytes seed
  pub text : digits ≡ encode_lower seed

digits_spelled : (seed digits : List ℕ) (b : Bool) → list_all is_lower_hex digits ≡ b → cond b (result_ok (decode_sized digits 24)) None ≡ Some seed → IsSpelled seed digits
digits_spelled seed digits true lower h =
    let read : decode_sized digits 24 ≡ Ok seed = ok_only (decode_sized digits 24) seed h in
    let long : length digits ≡ 2 * 24 = decode_sized-ok digits 24 seed read in
    let whole : decode_of digits ≡ Ok seed = sym (decode_sized-twice digits 24 long) ∙ read in
    let facts = decode_of-ok digits seed whole in
    let twice : length digits ≡ 2 * length seed = facts.2 in
    record {
      long = omega arith;
      bytes = facts.3;
      text = pairs_spelled 0 digits seed lower (sym (decode_of-even digits (omega arith)) ∙ whole);
    }
digits_spelled seed digits false lower h = absurd (cc)

line_spelled : (seed line : List ℕ) (b : Bool) → bytes_eq (take 12 line) (codes "sso-trace 1 ") ≡ b → cond b (seed_of_digits (drop 12 line)) None ≡ Some seed → IsHeaderOf seed line
line_spelled seed line true front h =
    let spelled = digits_spelled seed (drop 12 line) (list_all is_lower_hex (drop 12 line)) refl h in
    record {
      long = spelled.long;
      bytes = spelled.bytes;
      text = sym (take-append-drop 12 line) ∙ ap (λ f. f ++ drop 12 line) ((bytes_eq-Decides (take 12 line) (codes "sso-trace 1 ")).0 front) ∙ ap (λ ds. codes "sso-trace 1 " ++ ds) spelled.text;
    }
line_spelled seed line false front h = absurd (cc)

pub seed_spelled : (line seed : List ℕ) → seed_of line ≡ Some seed → IsHeaderOf seed line
seed_spelled line seed h = line_spelled seed line (bytes_eq (take 12 line) (codes "sso-trace 1 ")) refl h

spelled_digits : (seed : List ℕ) → length seed ≡ 24 → IsBytes seed → seed_of_digits (encode_lower seed) ≡ Some seed
spelled_digits seed long are =
    ap (λ b. cond b (result_ok (decode_sized (encode_lower seed) 24)) None) (bytes_lower seed are)
    ∙ ap result_ok (decode_sized-encode_lower seed 24 long are)

pub spelled_seed : (line seed : List ℕ) → IsHeaderOf seed line → seed_of line ≡ Some seed
spelled_seed line seed is = ap seed_of is.text ∙ spelled_digits seed is.long is.bytes
