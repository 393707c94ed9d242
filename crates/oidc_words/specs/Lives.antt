-- Lifetimes, in seconds, of what the provider and a relying party keep and issue (our choice, unless a standard is named).
use Rattle.std.specs.Prelude.{ℕ, codes}
use Rattle.sso_base.specs.Words.{Text}

-- ---- at the provider

-- a turn: an authorization request that is waiting for the user
abbrev pub turn_life : ℕ
turn_life = 600

-- a question: a request to sign out that is waiting for the user (OpenID Connect RP-Initiated Logout 1.0, 2)
abbrev pub question_life : ℕ
question_life = 600

-- a session, from its last login
abbrev pub session_life : ℕ
session_life = 43200

-- how long a code may be used (RFC 6749, 4.1.2: ten minutes at most)
abbrev pub code_usable : ℕ
code_usable = 120

-- how long a code is kept: as long as what it gave may live
abbrev pub code_life : ℕ
code_life = 3720

-- an access token
abbrev pub access_life : ℕ
access_life = 3600

-- its `expires_in` (RFC 6749, 4.2.2)
abbrev pub access_life_text : Text
access_life_text = codes "3600"

-- a family of refresh tokens: 30 days (OpenID Connect Core 1.0, 11)
abbrev pub family_life : ℕ
family_life = 2592000

-- an ID Token, from `iat` to `exp` (OpenID Connect Core 1.0, 2)
abbrev pub id_token_life : ℕ
id_token_life = 300

-- a logout token, from `iat` to `exp` (OpenID Connect Back-Channel Logout 1.0, 2.4)
abbrev pub logout_token_life : ℕ
logout_token_life = 120

-- ---- at a relying party

-- a login, until its callback
abbrev pub login_life : ℕ
login_life = 600

-- a pending exchange, from the token request on
abbrev pub pending_life : ℕ
pending_life = 120

-- a session
abbrev pub visit_life : ℕ
visit_life = 28800

-- how long a logout token is remembered (OpenID Connect Back-Channel Logout 1.0, 2.6)
abbrev pub seen_life : ℕ
seen_life = 661

-- ---- verification of tokens

-- how far clocks may differ (OpenID Connect Core 1.0, 2 and 3.1.3.7)
abbrev pub leeway : ℕ
leeway = 60

-- how old a token may be, from its `iat` (OpenID Connect Core 1.0, 3.1.3.7, step 10)
abbrev pub oldest : ℕ
oldest = 600
