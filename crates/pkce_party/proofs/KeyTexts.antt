-- Challenges are texts.
use Rattle.std.proofs.Common.{List, ℕ}
use Rattle.std.specs.Str.{IsUtf8}
use Rattle.sha2.specs.Sha256.{sha256}
use Rattle.sso_base.proofs.WordUtf8.{IsUtf8-word_text}
use Rattle.pkce_answer.specs.Challenges.{challenge_of}

pub IsUtf8-challenge_of : (verifier : List ℕ) → IsUtf8 (challenge_of verifier)
IsUtf8-challenge_of verifier = IsUtf8-word_text (sha256 verifier)
