-- The definitions on small cases, computed.
use Rattle.std.proofs.Common.{◌≡◌, [], ◌∷◌, ◌++◌, length, codes, refl, arith}
use Rattle.std.specs.Prelude.{replicate}
use Rattle.sha2.specs.Sha256.{sha256, first_words, schedule, rounds, compress, hash_after, digest_bytes}
use Rattle.hmac256.proofs.Keys.{block_of_long}
use Rattle.hmac256.specs.Hmac.{block_of, masked, xor_lists, xor_all, hmac_of, iterate_of, iterates_of, proof_of}

masked_bytes : masked 0x36 (0x00 ∷ 0x36 ∷ 0xff ∷ []) ≡ 0x36 ∷ 0x00 ∷ 0xc9 ∷ []
masked_bytes = refl

xored : xor_lists (0x0f ∷ 0xff ∷ []) (0xf0 ∷ 0x0f ∷ []) ≡ 0xff ∷ 0xf0 ∷ []
xored = refl

three_xored : xor_all (replicate 32 1 ∷ replicate 32 2 ∷ replicate 32 7 ∷ []) ≡ replicate 32 4
three_xored = refl

-- a short key stands at the block's front, and zeros follow
block_of_jefe : block_of (codes "Jefe") ≡ 0x4a ∷ 0x65 ∷ 0x66 ∷ 0x65 ∷ replicate 60 0
unfolding block_of
block_of_jefe = refl

length-block_of_jefe : length (block_of (codes "Jefe")) ≡ 64
unfolding block_of
length-block_of_jefe = refl

-- a key of 64 bytes is its own block, and one of 65 bytes is not
key_of_64 : block_of (replicate 64 7) ≡ replicate 64 7
unfolding block_of
key_of_64 = refl

key_of_65 : block_of (replicate 65 7) ≡ sha256 (replicate 65 7) ++ replicate 32 0
key_of_65 = block_of_long (replicate 65 7) (omega arith)

-- RFC 4231, test case 2
mac_of_jefe : hmac_of (codes "Jefe") (codes "what do ya want for nothing?") ≡
    0x5b ∷ 0xdc ∷ 0xc1 ∷ 0x46 ∷ 0xbf ∷ 0x60 ∷ 0x75 ∷ 0x4e ∷ 0x6a ∷ 0x04 ∷ 0x24 ∷ 0x26 ∷ 0x08 ∷
    0x95 ∷ 0x75 ∷ 0xc7 ∷ 0x5a ∷ 0x00 ∷ 0x3f ∷ 0x08 ∷ 0x9d ∷ 0x27 ∷ 0x39 ∷ 0x83 ∷ 0x9d ∷ 0xec ∷
    0x58 ∷ 0xb9 ∷ 0x64 ∷ 0xec ∷ 0x38 ∷ 0x43 ∷ []
unfolding hmac_of block_of first_words schedule rounds compress hash_after digest_bytes sha256
mac_of_jefe = refl

-- a key of 65 bytes
mac_of_long_key : hmac_of (replicate 65 7) (codes "text") ≡
    0xb2 ∷ 0xf4 ∷ 0xd3 ∷ 0x6d ∷ 0x00 ∷ 0x05 ∷ 0x18 ∷ 0x25 ∷ 0xb9 ∷ 0x6f ∷ 0x4a ∷ 0xa8 ∷ 0xe4 ∷
    0x3d ∷ 0x91 ∷ 0x46 ∷ 0xf4 ∷ 0x29 ∷ 0x32 ∷ 0x6e ∷ 0x4f ∷ 0x4c ∷ 0x8d ∷ 0xf0 ∷ 0xb6 ∷ 0x5b ∷
    0x10 ∷ 0x7e ∷ 0xac ∷ 0x23 ∷ 0xd8 ∷ 0x44 ∷ []
unfolding hmac_of block_of first_words schedule rounds compress hash_after digest_bytes sha256
mac_of_long_key = refl

-- one round and two rounds of PBKDF2 of a known password and salt
proof_of_one_round : proof_of (codes "password") (codes "salt") 1 ≡
    0x12 ∷ 0x0f ∷ 0xb6 ∷ 0xcf ∷ 0xfc ∷ 0xf8 ∷ 0xb3 ∷ 0x2c ∷ 0x43 ∷ 0xe7 ∷ 0x22 ∷ 0x52 ∷ 0x56 ∷
    0xc4 ∷ 0xf8 ∷ 0x37 ∷ 0xa8 ∷ 0x65 ∷ 0x48 ∷ 0xc9 ∷ 0x2c ∷ 0xcc ∷ 0x35 ∷ 0x48 ∷ 0x08 ∷ 0x05 ∷
    0x98 ∷ 0x7c ∷ 0xb7 ∷ 0x0b ∷ 0xe1 ∷ 0x7b ∷ []
unfolding proof_of iterates_of iterate_of hmac_of block_of first_words schedule rounds compress hash_after digest_bytes sha256
proof_of_one_round = refl

proof_of_two_rounds : proof_of (codes "password") (codes "salt") 2 ≡
    0xae ∷ 0x4d ∷ 0x0c ∷ 0x95 ∷ 0xaf ∷ 0x6b ∷ 0x46 ∷ 0xd3 ∷ 0x2d ∷ 0x0a ∷ 0xdf ∷ 0xf9 ∷ 0x28 ∷
    0xf0 ∷ 0x6d ∷ 0xd0 ∷ 0x2a ∷ 0x30 ∷ 0x3f ∷ 0x8e ∷ 0xf3 ∷ 0xc2 ∷ 0x51 ∷ 0xdf ∷ 0xd6 ∷ 0xe2 ∷
    0xd8 ∷ 0x5a ∷ 0x95 ∷ 0x47 ∷ 0x4c ∷ 0x43 ∷ []
unfolding proof_of iterates_of iterate_of hmac_of block_of first_words schedule rounds compress hash_after digest_bytes sha256
proof_of_two_rounds = refl
