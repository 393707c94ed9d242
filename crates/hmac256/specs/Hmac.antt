-- HMAC with SHA-256 (RFC 2104) and the first block of PBKDF2 with it (RFC 8018), as functions on
-- lists of bytes.
use Rattle.std.specs.Prelude.{ℕ, zero, suc, ◌-◌, List, [], ◌∷◌, ◌++◌, length, replicate, map, bit_xor, nat_le, if◌then◌else◌}
use Rattle.sha2.specs.Sha256.{sha256}

-- a key of more than 64 bytes is replaced by its digest (RFC 2104, 2)
abbrev pub short_key : List ℕ → List ℕ
short_key k = if nat_le (length k) 64 then k else sha256 k

-- the key as a block of 64 bytes: zeros follow it (RFC 2104, 2, step 1)
unfoldable pub block_of : List ℕ → List ℕ
block_of k = short_key k ++ replicate (64 - length (short_key k)) 0

-- each byte xor the byte m
abbrev pub masked : ℕ → List ℕ → List ℕ
masked m xs = map (λ x. bit_xor x m) xs

-- H (K xor opad, H (K xor ipad, text)), where ipad is the byte 36 and opad the byte 5C, each 64
-- times (RFC 2104, 2)
unfoldable pub hmac_of : List ℕ → List ℕ → List ℕ
hmac_of k t = sha256 (masked 0x5c (block_of k) ++ sha256 (masked 0x36 (block_of k) ++ t))

-- two lists of one length, xored byte by byte
abbrev pub xor_lists : List ℕ → List ℕ → List ℕ
xor_lists [] ys = []
xor_lists (x ∷ xs) [] = []
xor_lists (x ∷ xs) (y ∷ ys) = bit_xor x y ∷ xor_lists xs ys

-- the number of the first block, INT (1): four bytes, high first (RFC 8018, 5.2, step 3)
abbrev pub first_block : List ℕ
first_block = 0 ∷ 0 ∷ 0 ∷ 1 ∷ []

-- the iterate U i, for i from 1 on: U 1 is the PRF of the salt and INT (1), and each later one is
-- the PRF of the one before it (RFC 8018, 5.2, step 3)
unfoldable pub iterate_of : List ℕ → List ℕ → ℕ → List ℕ
iterate_of p s zero = s ++ first_block
iterate_of p s (suc i) = hmac_of p (iterate_of p s i)

-- U 1, U 2, …, U c
unfoldable pub iterates_of : List ℕ → List ℕ → ℕ → List (List ℕ)
iterates_of p s zero = []
iterates_of p s (suc c) = iterates_of p s c ++ iterate_of p s (suc c) ∷ []

-- blocks of 32 bytes, xored into one
abbrev pub xor_all : List (List ℕ) → List ℕ
xor_all [] = replicate 32 0
xor_all (b ∷ bs) = xor_lists b (xor_all bs)

-- T 1, the xor of U 1, U 2, …, U c: the first block of PBKDF2 of a password, a salt and a count of
-- rounds (RFC 8018, 5.2)
unfoldable pub proof_of : List ℕ → List ℕ → ℕ → List ℕ
proof_of p s c = xor_all (iterates_of p s c)
