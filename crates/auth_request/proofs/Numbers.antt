-- Numbers of clients, and ages of few digits.
use Rattle.std.proofs.Common.{◌≡◌, ◌<◌, ◌≤◌, ◌+◌, ◌*◌, ◌^◌, ℕ, zero, suc, ◌-◌, List, [], ◌∷◌, length, Bool, true, false, cond, Some, arith}
use Rattle.std.proofs.lemmas.Grind.{pow_more}
use Rattle.std.specs.List.{position_from}
use Rattle.client_registry.specs.declared.records.Client.{Client}
use Rattle.client_registry.specs.Records.{client_place}

-- the first place that passes is within the list
here : {A : Type 0} (f : A → Bool) (xs : List A) (n k : ℕ) (b : Bool) → (position_from f (n + 1) xs ≡ Some k → k < (n + 1) + length xs) → cond b (Some n) (position_from f (n + 1) xs) ≡ Some k → k < n + suc (length xs)
here f xs n k true later h = let same : n ≡ k = cc in omega (arith, same)
here f xs n k false later h = omega (arith, later h)

within : {A : Type 0} (f : A → Bool) (xs : List A) (n k : ℕ) → position_from f n xs ≡ Some k → k < n + length xs
within f [] n k h = absurd (cc)
within f (x ∷ xs) n k h = here f xs n k (f x) (within f xs (n + 1) k) h

pub below : (id : List ℕ) (clients : List Client) (k : ℕ) → client_place id clients ≡ Some k → k < length clients
below id clients k h = omega (arith, within _ clients 0 k h)

-- ---- numbers of at most nine digits

pub up : (d i m : ℕ) → i + d ≡ m → 10 ^ i ≤ 10 ^ m
up zero i m e = let same : i ≡ m = omega (arith, e) in rw same (omega arith)
up (suc d) i m e = omega (arith, up d (i + 1) m (omega (arith, e)), pow_more 10 i)

-- the number of fewer than nine digits has room for one more
pub has_room : (n i m : ℕ) → n < 10 ^ i → i < m → m ≤ 9 → n < 10 ^ 8
has_room n i m small within few = omega (arith, small, up (8 - i) i 8 (omega (arith, within, few)))

-- one more digit
pub one_more : (n i d : ℕ) → n < 10 ^ i → d ≤ 9 → n * 10 + d < 10 ^ (i + 1)
one_more n i d small digit = omega (arith, small, digit, pow_more 10 i)
