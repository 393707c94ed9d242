-- MACs are 32 bytes, and what a proof is.
use Rattle.std.proofs.Common.{◌≡◌, ℕ, zero, suc, List, [], ◌∷◌, ◌++◌, length, Bool, true, nat_lt, refl, arith}
use Rattle.std.specs.List.{list_all}
use Rattle.std.specs.Int.{w32, to_be_bytes}
use Rattle.std.proofs.lemmas.List.Folds.{list_all-append}
use Rattle.std.proofs.lemmas.Grind.{common_steps}
use Rattle.sha2.specs.Sha256.{sha256, digest_bytes}
use Rattle.sha2.proofs.Facts256.{length-sha256}
use Rattle.hmac256.specs.Hmac.{hmac_of, proof_of, iterate_of, iterates_of, xor_lists}
use Rattle.hmac256.proofs.Xor.{xor_lists-zeros, xor_all-push}

-- ---- bytes

-- each number is below 256
abbrev pub all_bytes : List ℕ → Bool
all_bytes b = list_all (λ x. nat_lt x 256) b

word_bytes : (n : ℕ) → all_bytes (to_be_bytes w32 n) ≡ true
word_bytes n = grind (arith, common_steps)

pub all_bytes-digest_bytes : (h : List ℕ) (n : ℕ) → all_bytes (digest_bytes h n) ≡ true
unfolding digest_bytes
all_bytes-digest_bytes h zero = refl
all_bytes-digest_bytes h (suc n) =
    rw (list_all-append (λ x. nat_lt x 256) (digest_bytes h n) (to_be_bytes w32 _), all_bytes-digest_bytes h n, word_bytes _)

pub all_bytes-sha256 : (m : List ℕ) → all_bytes (sha256 m) ≡ true
unfolding sha256
all_bytes-sha256 m = all_bytes-digest_bytes _ 8

pub all_bytes-hmac : (k t : List ℕ) → all_bytes (hmac_of k t) ≡ true
unfolding hmac_of
all_bytes-hmac k t = all_bytes-sha256 _

pub length-hmac : (k t : List ℕ) → length (hmac_of k t) ≡ 32
unfolding hmac_of
length-hmac k t = length-sha256 _

-- ---- proofs

pub length-iterate : (p s : List ℕ) (i : ℕ) → length (iterate_of p s (suc i)) ≡ 32
unfolding iterate_of
length-iterate p s i = length-hmac p (iterate_of p s i)

-- one round: the PRF of the salt and the number of the first block
pub proof_of-one : (p s : List ℕ) → proof_of p s 1 ≡ hmac_of p (s ++ 0 ∷ 0 ∷ 0 ∷ 1 ∷ [])
unfolding proof_of iterates_of iterate_of
proof_of-one p s = xor_lists-zeros 32 _ (omega (arith, length-hmac p (s ++ 0 ∷ 0 ∷ 0 ∷ 1 ∷ [])))

-- one round more: its iterate is xored in
pub proof_of-suc : (p s : List ℕ) (c : ℕ) → proof_of p s (suc c) ≡ xor_lists (proof_of p s c) (iterate_of p s (suc c))
unfolding proof_of iterates_of
proof_of-suc p s c = xor_all-push (iterates_of p s c) (iterate_of p s (suc c)) (length-iterate p s c)
