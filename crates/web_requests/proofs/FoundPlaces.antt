-- The place of the first element that passes a test is one of the list, and the element there passes it.
use Rattle.std.proofs.Common.{◌≡◌, ◌<◌, ◌+◌, ℕ, suc, List, [], ◌∷◌, length, Bool, true, false, cond, Some, unwrap_or, slice_get, refl, arith}
use Rattle.std.specs.List.{position_from}

pub record FoundAt {X : Type 0} (test : X → Bool) (xs : List X) (d : X) (i k : ℕ) : Type 0 where
  pub place : ℕ
  pub number : k ≡ i + place
  pub low : place < length xs
  pub passes : test (unwrap_or (slice_get xs place) d) ≡ true

one_number : (m n : ℕ) → Some m ≡ Some n → m ≡ n
one_number m n h = cc

found_at : {X : Type 0} (test : X → Bool) (x : X) (xs : List X) (d : X) (i k : ℕ) (b : Bool) → test x ≡ b → (position_from test (i + 1) xs ≡ Some k → FoundAt test xs d (i + 1) k)
    → cond b (Some i) (position_from test (i + 1) xs) ≡ Some k → FoundAt test (x ∷ xs) d i k
found_at test x xs d i k true is later h =
    let same : i ≡ k = one_number i k h in
    record { place = 0; number = omega (arith, same); low = omega arith; passes = is }
found_at test x xs d i k false is later h =
    let f = later h in
    let number : k ≡ (i + 1) + f.place = f.number in
    let low : f.place < length xs = f.low in
    record { place = suc f.place; number = omega (arith, number); low = omega (arith, low); passes = f.passes }

pub found : {X : Type 0} (test : X → Bool) (xs : List X) (d : X) (i k : ℕ) → position_from test i xs ≡ Some k → FoundAt test xs d i k
found test [] d i k h = absurd (cc)
found test (x ∷ xs) d i k h = found_at test x xs d i k (test x) refl (found test xs d (i + 1) k) h

pub found_below : {X : Type 0} (test : X → Bool) (xs : List X) (d : X) (k : ℕ) → position_from test 0 xs ≡ Some k → k < length xs
found_below test xs d k h =
    let f = found test xs d 0 k h in
    let number : k ≡ 0 + f.place = f.number in
    let low : f.place < length xs = f.low in
    omega (arith, number, low)
