-- Code challenges (RFC 7636, 4.2), and requests that hold values of their types.
use Rattle.std.specs.Prelude.{◌≡◌, ℕ, List, length, Option, Some, None}
use Rattle.sso_base.specs.Base64Url.{b64u}
use Rattle.sha2.specs.Sha256.{sha256}
use Rattle.pkce_answer.specs.declared.asks.Challenge.{Challenge}
use Rattle.pkce_answer.specs.declared.asks.Challenge.TheVariants as challenge
use Rattle.pkce_answer.specs.declared.asks.PkceAsk.{PkceAsk}

abbrev pub Digest : Type 0
Digest = List ℕ

-- the challenge of a verifier by the method S256
abbrev pub challenge_of : List ℕ → Digest
challenge_of verifier = b64u (sha256 verifier)

-- the challenge of the method S256 that was sent
abbrev pub sent : Challenge → Option Digest
sent (challenge.S256 digest) = Some digest
sent other = None

-- the mark of a request is its challenge
abbrev pub asked_mark : {A : Type 0} → PkceAsk A → Option Digest
asked_mark asked = sent asked.challenge

abbrev pub IsChallenge : Challenge → Type 0
IsChallenge (challenge.S256 digest) = length digest ≡ 43
IsChallenge other = Unit {0}

abbrev pub IsPkceAsk : {A : Type 0} → (A → Type 0) → PkceAsk A → Type 0
IsPkceAsk IsAsk asked = IsAsk asked.inner × IsChallenge asked.challenge
