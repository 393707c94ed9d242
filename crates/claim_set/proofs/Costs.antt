-- How many bytes claims add to the text of a claim set at most.
use Rattle.std.proofs.Common.{◌≡◌, ◌≤◌, ◌<◌, ◌+◌, ◌*◌, ◌^◌, ℕ, true, List, [], ◌∷◌, length, decimal, Option, Some, None, arith}
use Rattle.std.proofs.lemmas.Fmt.{length-decimal-le}
use Rattle.json.specs.Print.{quoted}
use Rattle.serde_json.specs.Data.{Data, string, Members}
use Rattle.serde_json.specs.Written.{compact_text}
use Rattle.claim_set.specs.Building.{Entry, put_if, put_all, number_value}
use Rattle.claim_set.specs.Reading.{claims_text}
use Rattle.claim_set.proofs.Sizes.{length-quoted, length-claims_text-put}
use Rattle.claim_set.proofs.PlainTexts.{is_plain, length-quoted_plain}

-- what a name and its value add: both texts, a colon and a comma
abbrev pub cost : List ℕ → Option Data → ℕ
cost k None = 0
cost k (Some d) = length (quoted k) + (length (compact_text d) + 2)

abbrev pub cost_all : List Entry → ℕ
cost_all [] = 0
cost_all (e ∷ es) = cost e.0 e.1 + cost_all es

nothing_more : (n : ℕ) → n ≤ n + 0
nothing_more n = omega arith

length-put_if : (k : List ℕ) (o : Option Data) (ms : Members) → length (claims_text (put_if k o ms)) ≤ length (claims_text ms) + cost k o
length-put_if k None ms = nothing_more (length (claims_text ms))
length-put_if k (Some d) ms = length-claims_text-put k d ms

in_turn : (a b c m n : ℕ) → a ≤ b + n → b ≤ c + m → a ≤ c + (m + n)
in_turn a b c m n f g = omega arith

pub length-put_all : (es : List Entry) (ms : Members) → length (claims_text (put_all es ms)) ≤ length (claims_text ms) + cost_all es
length-put_all [] ms = nothing_more (length (claims_text ms))
length-put_all (e ∷ es) ms = in_turn _ _ _ _ _ (length-put_all es (put_if e.0 e.1 ms)) (length-put_if e.0 e.1 ms)

-- ---- each kind of value, where the quoted name has q bytes

plain_sum : (a b n m q : ℕ) → a ≡ q → b ≤ 2 * n + 2 → n ≤ m → a + (b + 2) ≤ q + (2 * m + 4)
plain_sum a b n m q f g h = omega arith

pub plain_cost : (k t : List ℕ) (m q : ℕ) → length (quoted k) ≡ q → is_plain t ≡ true → length t ≤ m → cost k (Some (string t)) ≤ q + (2 * m + 4)
plain_cost k t m q f g h = plain_sum _ _ (length t) m q f (length-quoted_plain t g) h

any_sum : (a b n m q : ℕ) → a ≡ q → b ≤ 6 * n + 2 → n ≤ m → a + (b + 2) ≤ q + (6 * m + 4)
any_sum a b n m q f g h = omega arith

pub any_cost : (k t : List ℕ) (m q : ℕ) → length (quoted k) ≡ q → length t ≤ m → cost k (Some (string t)) ≤ q + (6 * m + 4)
any_cost k t m q f h = any_sum _ _ (length t) m q f (length-quoted t) h

number_sum : (a b q : ℕ) → a ≡ q → b ≤ 13 → a + (b + 2) ≤ q + 15
number_sum a b q f g = omega arith

short_number : (n : ℕ) → n < 2 ^ 40 → length (decimal n) ≤ 13
short_number n h = length-decimal-le 13 n (omega arith) (omega arith) (omega arith)

pub number_cost : (k : List ℕ) (n q : ℕ) → length (quoted k) ≡ q → n < 2 ^ 40 → cost k (Some (number_value n)) ≤ q + 15
number_cost k n q f h = number_sum _ _ q f (short_number n h)
