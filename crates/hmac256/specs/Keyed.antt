-- The state of the two hashers of a key.
use Rattle.std.specs.Prelude.{ℕ, List}
use Rattle.sha2.specs.Hashers.{Holds256}
use Rattle.hmac256.specs.Hmac.{block_of, masked}
use Rattle.hmac256.specs.declared.hmac.Keyed.{Keyed}

-- the hashers have hashed the key's block, xor ipad and xor opad
pub record IsKeyed (s : Keyed) (key : List ℕ) : Type 0 where
  pub inner : Holds256 s.inner (masked 0x36 (block_of key))
  pub outer : Holds256 s.outer (masked 0x5c (block_of key))
