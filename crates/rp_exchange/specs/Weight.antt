-- The weight of a request: 1,024 and the bytes of its texts. A claim set counts as its text.
use Rattle.std.specs.Prelude.{ℕ, ◌+◌, length, Option, Some, None, Result, Ok, Err}
use Rattle.sso_base.specs.Words.{Text}
use Rattle.sso_base.specs.Weights.{empty_weight, text_bytes, texts_bytes}
use Rattle.claim_set.specs.Reading.{claims_text}
use Rattle.claim_set.specs.declared.no.ClaimNo.{ClaimNo}
use Rattle.claim_set.specs.declared.no.ClaimNo.TheVariants.{WrongKind}
use Rattle.id_token.specs.declared.claims.IdClaims.{IdClaims}
use Rattle.id_token.specs.declared.no.IdNo.{IdNo}
use Rattle.id_token.specs.declared.no.IdNo.TheVariants as id_no
use Rattle.logout_token.specs.declared.claims.LogoutClaims.{LogoutClaims}
use Rattle.logout_token.specs.declared.no.LogoutNo.{LogoutNo}
use Rattle.logout_token.specs.declared.no.LogoutNo.TheVariants as logout_no
use Rattle.auth_answer.specs.declared.heard.Heard.{Heard}
use Rattle.auth_answer.specs.declared.no.AnswerNo.{AnswerNo}
use Rattle.auth_answer.specs.declared.no.AnswerNo.TheVariants as answer_no
use Rattle.token_endpoint.specs.declared.reading.Tokens.{Tokens}
use Rattle.token_endpoint.specs.declared.no.TokensNo.{TokensNo}
use Rattle.token_endpoint.specs.declared.no.TokensNo.TheVariants as tokens_no
use Rattle.userinfo.specs.declared.no.InfoNo.{InfoNo}
use Rattle.userinfo.specs.declared.no.InfoNo.TheVariants as info_no
use Rattle.rp_exchange.specs.declared.ask.RpAsk.{RpAsk}
use Rattle.rp_exchange.specs.declared.ask.RpAsk.TheVariants as ask

-- ---- the claims of an ID Token, and of a logout token

abbrev pub field_bytes : IdClaims → ℕ
field_bytes x =
    length x.iss + length x.sub + texts_bytes x.aud + text_bytes x.azp + text_bytes x.nonce + text_bytes x.sid + text_bytes x.at_hash + text_bytes x.c_hash

abbrev pub id_bytes : IdClaims → ℕ
id_bytes x = field_bytes x + length (claims_text x.more)

abbrev pub claims_bytes : LogoutClaims → ℕ
claims_bytes x = length x.iss + texts_bytes x.aud + length x.jti + text_bytes x.sub + text_bytes x.sid

-- ---- errors with a name

abbrev pub claims_refused_bytes : ClaimNo → ℕ
claims_refused_bytes (WrongKind name) = length name
claims_refused_bytes other = 0

abbrev pub id_refused_bytes : IdNo → ℕ
id_refused_bytes (id_no.Claims why) = claims_refused_bytes why
id_refused_bytes (id_no.Missing name) = length name
id_refused_bytes other = 0

abbrev pub tokens_refused_bytes : TokensNo → ℕ
tokens_refused_bytes (tokens_no.Claims why) = claims_refused_bytes why
tokens_refused_bytes (tokens_no.Missing name) = length name
tokens_refused_bytes other = 0

abbrev pub info_refused_bytes : InfoNo → ℕ
info_refused_bytes (info_no.Claims why) = claims_refused_bytes why
info_refused_bytes other = 0

abbrev pub logout_refused_bytes : LogoutNo → ℕ
logout_refused_bytes (logout_no.Claims why) = claims_refused_bytes why
logout_refused_bytes (logout_no.Missing name) = length name
logout_refused_bytes other = 0

-- ---- what was read, or why it was rejected

abbrev pub id_read_bytes : Option (Result IdClaims IdNo) → ℕ
id_read_bytes None = 0
id_read_bytes (Some (Ok claims)) = id_bytes claims
id_read_bytes (Some (Err why)) = id_refused_bytes why

abbrev pub heard_bytes : Result Heard AnswerNo → ℕ
heard_bytes (Ok heard) = text_bytes heard.code + text_bytes heard.access + text_bytes heard.id
heard_bytes (Err (answer_no.Twice name)) = length name
heard_bytes (Err answer_no.NoMemory) = 0

abbrev pub tokens_bytes : Result Tokens TokensNo → ℕ
tokens_bytes (Ok tokens) = length tokens.access + length tokens.id
tokens_bytes (Err why) = tokens_refused_bytes why

abbrev pub info_bytes : Result Text InfoNo → ℕ
info_bytes (Ok sub) = length sub
info_bytes (Err why) = info_refused_bytes why

abbrev pub logout_bytes : Result LogoutClaims LogoutNo → ℕ
logout_bytes (Ok claims) = claims_bytes claims
logout_bytes (Err why) = logout_refused_bytes why

abbrev pub ask_bytes : RpAsk → ℕ
ask_bytes (ask.Callback heard id browser) = heard_bytes heard + id_read_bytes id
ask_bytes (ask.Tokens pending tokens id) = tokens_bytes tokens + id_read_bytes id
ask_bytes (ask.Info pending sub) = info_bytes sub
ask_bytes (ask.Logout claims) = logout_bytes claims
ask_bytes other = 0

abbrev pub ask_weight : RpAsk → ℕ
ask_weight asked = empty_weight + ask_bytes asked
