-- The block of a key, and a MAC from the two hashers.
use Rattle.std.proofs.Common.{◌≡◌, ℕ, ◌<◌, ◌≤◌, List, ◌++◌, length, drop, refl, arith}
use Rattle.std.specs.Prelude.{replicate}
use Rattle.std.proofs.lemmas.List.{drop-replicate}
use Rattle.std.proofs.lemmas.Grind.{common_steps}
use Rattle.sha2.specs.Sha256.{sha256}
use Rattle.sha2.proofs.Facts256.{length-sha256}
use Rattle.hmac256.specs.Hmac.{block_of, short_key, masked, hmac_of}

short_key_same : (k : List ℕ) → length k ≤ 64 → short_key k ≡ k
short_key_same k h = grind (arith, common_steps)

short_key_long : (k : List ℕ) → 64 < length k → short_key k ≡ sha256 k
short_key_long k h = grind (arith, common_steps)

-- a key of at most 64 bytes stands over the front of 64 zeros
pub block_of_short : (k : List ℕ) → length k ≤ 64 → block_of k ≡ k ++ drop (length k) (replicate 64 0)
unfolding block_of
block_of_short k h = rw (short_key_same k h, drop-replicate {X = ℕ} (length k) 64 0) refl

-- a longer one is its digest, and zeros
pub block_of_long : (k : List ℕ) → 64 < length k → block_of k ≡ sha256 k ++ replicate 32 0
unfolding block_of
block_of_long k h = rw (short_key_long k h, length-sha256 k) refl

-- ---- as the code finds them

pub hmac_at : (k t : List ℕ) → hmac_of k t ≡ sha256 (masked 0x5c (block_of k) ++ sha256 (masked 0x36 (block_of k) ++ t))
unfolding hmac_of
hmac_at k t = refl
