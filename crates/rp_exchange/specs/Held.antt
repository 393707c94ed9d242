-- The bytes of the texts that rows of a relying party's tables hold because of a request or a response.
use Rattle.std.specs.Prelude.{ℕ, ◌+◌, Bool, nat_le, length, Option, Some, None, Result, Ok, Err}
use Rattle.sso_base.specs.Weights.{most_held, text_bytes}
use Rattle.id_token.specs.declared.claims.IdClaims.{IdClaims}
use Rattle.id_token.specs.declared.no.IdNo.{IdNo}
use Rattle.logout_token.specs.declared.claims.LogoutClaims.{LogoutClaims}
use Rattle.logout_token.specs.declared.no.LogoutNo.{LogoutNo}
use Rattle.auth_answer.specs.declared.heard.Heard.{Heard}
use Rattle.auth_answer.specs.declared.no.AnswerNo.{AnswerNo}
use Rattle.rp_exchange.specs.declared.ask.RpAsk.{RpAsk}
use Rattle.rp_exchange.specs.declared.ask.RpAsk.TheVariants as ask

-- the row of a pending exchange holds the code of its callback
abbrev pub heard_held : Result Heard AnswerNo → ℕ
heard_held (Ok heard) = text_bytes heard.code
heard_held (Err why) = 0

-- that row and the one of a session hold the subject and the session identifier of an ID Token
abbrev pub id_held : Option (Result IdClaims IdNo) → ℕ
id_held None = 0
id_held (Some (Ok claims)) = length claims.sub + text_bytes claims.sid
id_held (Some (Err why)) = 0

-- a logout token is remembered by its name, and by its session identifier
abbrev pub logout_held : Result LogoutClaims LogoutNo → ℕ
logout_held (Ok claims) = length claims.jti + text_bytes claims.sid
logout_held (Err why) = 0

abbrev pub held_bytes : RpAsk → ℕ
held_bytes (ask.Callback heard id browser) = heard_held heard + id_held id
held_bytes (ask.Tokens pending tokens id) = id_held id
held_bytes (ask.Logout claims) = logout_held claims
held_bytes other = 0

-- a party whose history lasts takes no other requests and responses
abbrev pub is_small : RpAsk → Bool
is_small asked = nat_le (held_bytes asked) most_held
