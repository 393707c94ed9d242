use Rattle.std.specs.Prelude.{⊤}
use Rattle.sha2.specs.Sha256.{sha256, first_words, schedule, rounds, compress, hash_after, digest_bytes}
use Rattle.hmac256.specs.Hmac.{block_of, hmac_of}

-- what an answer unfolds to compute a MAC of literals
unfoldable pub hmac_on_literals : ⊤
unfolding hmac_of block_of first_words schedule rounds compress hash_after digest_bytes sha256
hmac_on_literals = tt
