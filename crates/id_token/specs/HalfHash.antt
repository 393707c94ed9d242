-- Half digests (OpenID Connect Core 1.0, 3.1.3.6 and 3.3.2.11).
use Rattle.std.specs.Prelude.{ℕ, List, take}
use Rattle.sha2.specs.Sha256.{sha256}
use Rattle.sso_base.specs.Base64Url.{b64u}

-- the left half of the digest, in base64url
abbrev pub half_hash_of : List ℕ → List ℕ
half_hash_of t = b64u (take 16 (sha256 t))
